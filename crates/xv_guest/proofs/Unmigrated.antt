-- The unmigrated guest, run entry by entry over a device in memory.
use Rattle.std.proofs.Common.{◌≡◌, ℕ, zero, suc, ◌+◌, ◌^◌, ◌<◌, ◌≤◌, ◌==◌, ◌&&◌, true, false, List, [], ◌∷◌, ◌++◌, length, take, drop, set, get_or, replicate, slice_index, slice_set, Option, Some, None, if◌then◌else◌, refl, sym, ap, subst, ◌∙◌, arith, inl, inr}
use Rattle.std.proofs.lemmas.List.{take_more, take_all, take_at, length-set, get_or-set_same, get_or-set_other, set-get_or, append-nil}
use Rattle.std.proofs.lemmas.List.FromFn.{length-map-range_with_len, get_or-map-range_with_len}
use Rattle.std.proofs.lemmas.Bool.{cases_eq}
use Rattle.xv_base.specs.Units.{Shape, units, size, max_size}
use Rattle.xv_base.specs.Laws.{HasGreatestSize}
use Rattle.xv_base.specs.Pattern.{repeated}
use Rattle.xv_base.specs.declared.operation.Ended.{Ended}
use Rattle.xv_base.specs.declared.operation.Outcome.{Outcome}
use Rattle.xv_base.specs.declared.operation.Outcome.TheVariants.{Done, Faulted}
use Rattle.xv_base.specs.declared.pattern.Init.{Init}
use Rattle.xv_base.specs.declared.pattern.UnitOp.{UnitOp}
use Rattle.xv_trace.specs.Operations.{count_all, no_unit_op}
use Rattle.xv_trace.specs.OpText.{Program}
use Rattle.xv_trace.proofs.Counts.{length-all_unit_operations}
use Rattle.xv_model.specs.Job.{Job}
use Rattle.xv_model.specs.Guest.{is_done, writes_to, overlaid}
use Rattle.xv_model.specs.Contents.{unit_content, after_operation, read_of}
use Rattle.xv_model.proofs.Contents.Histories.{operation_of}
use Rattle.xv_model.proofs.Histories.{ended-push_same, ended-push_other, ended-take-le}
use Rattle.xv_model.proofs.Contents.Entries.{device-after, reads-after, reads-faulted, content-unwritten}
use Rattle.xv_model.proofs.Contents.Sizes.{length-repeated}
use Rattle.xv_device.specs.Device.{write_count, contents_after}
use Rattle.xv_device.specs.Memory.{Device, first_content, first_contents, fresh, after}
use Rattle.xv_guest.specs.Log.{ended, entry, no_entry}
use Rattle.xv_guest.specs.Plain.{Plain, guest_ops, LiesIn, IsJobOf, IsUnmigrated, call_by, call_of, bytes_of}

-- a guest that has a unit operation of this number has a trace, with more than so many
pub next_there : (programs : List Program) (guest k : ℕ) (p : Program) → k < length (guest_ops programs guest) → p ≡ get_or programs guest p → k < count_all p.ops
next_there [] guest k p h is = absurd (omega arith)
next_there (q ∷ ps) zero k p h is =
    let P : Program → Type 0 = λ r. k < count_all r.ops in
    subst P (sym is) (omega (arith, length-all_unit_operations q.shape q.ops))
next_there (q ∷ ps) (suc guest) k p h is = next_there ps guest k p h is

-- a unit operation that was done is a call after which the device has the contents after the operation
call_contents : (w : Option (List ℕ)) (op : UnitOp) (contents : List (List ℕ)) → op.write ≡ w → contents_after (call_by w op) contents ≡ after_operation op contents
call_contents None op contents e =
    sym (set-get_or contents op.unit.0 [])
    ∙ sym (ap (λ (w : Option (List ℕ)). set contents op.unit.0 (overlaid w op.offset op.len (unit_content contents op.unit.0))) e)
call_contents (Some pattern) op contents e =
    let old = unit_content contents op.unit.0 in
    ap (λ (n : ℕ). set contents op.unit.0 (take op.offset old ++ repeated pattern op.len ++ drop (op.offset + n) old)) (length-repeated pattern op.len)
    ∙ sym (ap (λ (w : Option (List ℕ)). set contents op.unit.0 (overlaid w op.offset op.len old)) e)

-- a device of this machine whose calls do not fail, after at most so many of them
pub record IsAt (shape : Shape) (most : ℕ) (device : Device) : Type 0 where
  pub shape_is : device.shape ≡ shape
  pub no_failing_read : device.reading.fails ≡ []
  pub no_failing_write : device.writing.fails ≡ []
  pub few_each : (unit : ℕ) → write_count device.writes unit ≤ most
  pub contents_each : length device.contents ≡ units shape

one_write_more : (xs : List ℕ) (u k : ℕ) → get_or (set xs u (get_or xs u 0 + 1)) k 0 ≤ get_or xs k 0 + 1
one_write_more [] u k = omega arith
one_write_more (x ∷ xs) zero zero = omega arith
one_write_more (x ∷ xs) zero (suc k) = omega arith
one_write_more (x ∷ xs) (suc u) zero = omega arith
one_write_more (x ∷ xs) (suc u) (suc k) = one_write_more xs u k

at_call : (shape : Shape) (most : ℕ) (d : Device) (w : Option (List ℕ)) (op : UnitOp) → IsAt shape most d → IsAt shape (most + 1) (after (call_by w op) false d)
at_call shape most d None op a = record {
  shape_is = a.shape_is;
  no_failing_read = a.no_failing_read;
  no_failing_write = a.no_failing_write;
  few_each = λ unit. omega (arith, a.few_each unit);
  contents_each = a.contents_each;
}
at_call shape most d (Some pattern) op a = record {
  shape_is = a.shape_is;
  no_failing_read = a.no_failing_read;
  no_failing_write = a.no_failing_write;
  few_each = λ unit. omega (arith, one_write_more d.writes op.unit.0 unit, a.few_each unit);
  contents_each = length-set d.contents op.unit.0 _ ∙ a.contents_each;
}

at_next : (shape : Shape) (most : ℕ) (d : Device) (o : Outcome) (op : UnitOp) → IsAt shape most d → IsAt shape (most + 1) (after (call_of o op) false d)
at_next shape most d Done op a = at_call shape most d op.write op a
at_next shape most d Faulted op a = record {
  shape_is = a.shape_is;
  no_failing_read = a.no_failing_read;
  no_failing_write = a.no_failing_write;
  few_each = λ unit. omega (arith, a.few_each unit);
  contents_each = a.contents_each;
}

-- one entry more, on the device and the bytes read
abbrev pub plain_of : Device → List ℕ → Plain
plain_of d read = record { shape = d.shape; contents = d.contents; read = read }

follow_next : (job : Job) (h : List Ended) (e : Ended) (o : Outcome) (op : UnitOp) (d : Device) (read : List ℕ) → e.outcome ≡ o → op ≡ operation_of job h e
    → op.unit.0 < length d.contents → op.unit.0 < units job.shape → IsUnmigrated job h (plain_of d read)
    → IsUnmigrated job (h ++ e ∷ []) (plain_of (after (call_of o op) false d) (read ++ bytes_of o op d.contents))
follow_next job h e Done op d read o_is op_is there in_range u =
    let done : is_done e.outcome ≡ true = ap is_done o_is in
    record {
      contents_are = λ unit lt.
          ap (λ (c : List (List ℕ)). unit_content c unit) (call_contents op.write op d.contents refl)
          ∙ device-after job h e op d.contents unit done op_is there (u.contents_are unit lt);
      read_is =
          ap (λ (r : List ℕ). r ++ read_of op d.contents) u.read_is
          ∙ sym (reads-after job h e op d.contents done op_is (u.contents_are op.unit.0 in_range));
    }
follow_next job h e Faulted op d read o_is op_is there in_range u = record {
  contents_are = λ unit lt. u.contents_are unit lt ∙ sym (content-unwritten job h e unit (ap (λ (o : Outcome). is_done o && writes_to (operation_of job h e) unit) o_is));
  read_is = append-nil read ∙ u.read_is ∙ sym (reads-faulted job h e (ap is_done o_is));
}

-- the first so many entries have been run; each guest's next unit operation has the number of those that ended
pub record IsRunTo (shape : Shape) (init : List Init) (programs : List Program) (history : List Ended) (i : ℕ) (device : Device) (read next : List ℕ) : Type 0 where
  pub at : IsAt shape i device
  pub next_each : length next ≡ 2 ^ 8
  pub next_are : (guest : ℕ) → guest < 2 ^ 8 → slice_index next guest ≡ ended (take i history) guest
  pub follows : (job : Job) → IsJobOf job shape init programs → IsUnmigrated job (take i history) (plain_of device read)

first_follows : (shape : Shape) (init : List Init) (programs : List Program) (job : Job) → IsJobOf job shape init programs → (unit : ℕ) → unit < units job.shape
    → unit_content (first_contents shape init) unit ≡ first_content job.init (size job.shape unit) unit
first_follows shape init programs job j unit lt =
    let P : Shape → Type 0 = λ s. unit < units s in
    get_or-map-range_with_len (λ (u : ℕ). first_content init (size shape u) u) 0 (units shape) unit unit [] (subst P j.shape_is lt) (omega arith)
    ∙ ap (λ (is : List Init). first_content is (size shape unit) unit) (sym j.init_is)
    ∙ ap (λ (s : Shape). first_content job.init (size s unit) unit) (sym j.shape_is)

abbrev pub sure_device : Shape → List Init → Device
sure_device shape init = fresh shape init (record { reads = []; writes = []; flushes = [] })

first_each : (n unit : ℕ) → get_or (replicate n 0) unit 0 ≤ 0
first_each zero unit = omega arith
first_each (suc n) zero = omega arith
first_each (suc n) (suc unit) = first_each n unit

pub begun : (shape : Shape) (init : List Init) (programs : List Program) (history : List Ended) (device : Device) (read next : List ℕ) → device ≡ sure_device shape init → read ≡ []
    → length next ≡ 2 ^ 8 → ((guest : ℕ) → slice_index next guest ≡ 0) → IsRunTo shape init programs history 0 device read next
begun shape init programs history device read next e r long zeros =
    let P : Device → Type 0 = λ d. IsRunTo shape init programs history 0 d read next in
    let Q : List ℕ → Type 0 = λ r. IsRunTo shape init programs history 0 (sure_device shape init) r next in
    subst P (sym e) (subst Q (sym r) (record {
      at = record {
        shape_is = refl;
        no_failing_read = refl;
        no_failing_write = refl;
        few_each = λ unit. first_each (units shape) unit;
        contents_each = length-map-range_with_len (λ (u : ℕ). first_content init (size shape u) u) 0 (units shape);
      };
      next_each = long;
      next_are = λ guest h. zeros guest;
      follows = λ job j. record { contents_are = first_follows shape init programs job j; read_is = refl };
    }))

-- the entry at i is its guest's next
pub next_of : (history : List Ended) (i : ℕ) → i < length history → ended (take i history) (entry history i).guest.0 + 1 ≤ ended history (entry history i).guest.0
next_of history i lt =
    let e = entry history i in
    omega (arith, ap (λ (h : List Ended). ended h e.guest.0) (take_more history i no_entry lt), ended-push_same (take i history) e, ended-take-le history (i + 1) e.guest.0)

pub is_next : (shape : Shape) (init : List Init) (programs : List Program) (history : List Ended) (i : ℕ) (device : Device) (read next : List ℕ) (e : Ended)
    → IsRunTo shape init programs history i device read next → i < length history → e ≡ entry history i → e.guest.0 < 2 ^ 8
    → ((guest : ℕ) → ended history guest ≤ length (guest_ops programs guest)) → slice_index next e.guest.0 < length (guest_ops programs e.guest.0)
is_next shape init programs history i device read next e r lt is small legal =
    let P : Ended → Type 0 = λ x. ended (take i history) x.guest.0 + 1 ≤ ended history x.guest.0 in
    omega (arith, subst P (sym is) (next_of history i lt), legal e.guest.0, r.next_are e.guest.0 small)

-- what it does lies in its unit, and its bytes fit those of the greatest unit
pub op_lies : (shape of_device : Shape) (programs : List Program) (guest k : ℕ) (op : UnitOp) → ((guest k : ℕ) → k < length (guest_ops programs guest) → LiesIn shape (get_or (guest_ops programs guest) k no_unit_op))
    → k < length (guest_ops programs guest) → op ≡ get_or (guest_ops programs guest) k no_unit_op → of_device ≡ shape → LiesIn of_device op
op_lies shape of_device programs guest k op within there is same =
    let P : UnitOp → Type 0 = λ o. LiesIn shape o in
    let Q : Shape → Type 0 = λ s. LiesIn s op in
    subst Q (sym same) (subst P (sym is) (within guest k there))

pub op_fits : (shape : Shape) (op : UnitOp) → HasGreatestSize shape → LiesIn shape op → op.len ≤ max_size shape
op_fits shape op g l = omega (arith, g.most op.unit.0 l.unit_is, l.in_unit)

-- a list that is written back whole
pub written_back : (n : ℕ) (xs ys : List ℕ) → n ≡ length xs → length ys ≡ length xs → take n (ys ++ drop (length ys) xs) ≡ ys
written_back n xs ys e f = take_at ys (drop (length ys) xs) n (omega arith)

-- and is run
next_counted : (history : List Ended) (i : ℕ) (next : List ℕ) → i < length history → length next ≡ 2 ^ 8 → (entry history i).guest.0 < 2 ^ 8
    → ((guest : ℕ) → guest < 2 ^ 8 → slice_index next guest ≡ ended (take i history) guest)
    → (guest : ℕ) → guest < 2 ^ 8 → slice_index (slice_set next (entry history i).guest.0 (slice_index next (entry history i).guest.0 + 1)) guest ≡ ended (take (i + 1) history) guest
next_counted history i next lt long small are guest h =
    let e = entry history i in
    let now : ended (take (i + 1) history) guest ≡ ended (take i history ++ e ∷ []) guest = ap (λ (x : List Ended). ended x guest) (take_more history i no_entry lt) in
    elim (cases_eq e.guest.0 guest) [
      | inl own ↦
          let P : ℕ → Type 0 = λ g. slice_index (slice_set next e.guest.0 (slice_index next e.guest.0 + 1)) g ≡ ended (take i history ++ e ∷ []) g in
          let at : slice_index (slice_set next e.guest.0 (slice_index next e.guest.0 + 1)) e.guest.0 ≡ slice_index next e.guest.0 + 1 = get_or-set_same next e.guest.0 (slice_index next e.guest.0 + 1) 0 (omega arith) in
          subst P own (at ∙ ap (λ n. n + 1) (are e.guest.0 small) ∙ sym (ended-push_same (take i history) e)) ∙ sym now
      | inr other ↦
          get_or-set_other next e.guest.0 guest (slice_index next e.guest.0 + 1) 0 (λ same. other (sym same))
          ∙ are guest h ∙ sym (ended-push_other (take i history) e guest other) ∙ sym now
    ]

op_of_job : (job : Job) (shape : Shape) (init : List Init) (programs : List Program) (h : List Ended) (e : Ended) (k : ℕ) → IsJobOf job shape init programs → k ≡ ended h e.guest.0
    → get_or (guest_ops programs e.guest.0) k no_unit_op ≡ operation_of job h e
op_of_job job shape init programs h e k j is =
    ap (λ (n : ℕ). get_or (guest_ops programs e.guest.0) n no_unit_op) is
    ∙ ap (λ (ts : List (List UnitOp)). get_or (get_or ts e.guest.0 []) (ended h e.guest.0) no_unit_op) (sym j.traces_are)

run_entry : (shape : Shape) (init : List Init) (programs : List Program) (history : List Ended) (i : ℕ) (device : Device) (read next : List ℕ) (op : UnitOp)
    → IsRunTo shape init programs history i device read next → i < length history → (entry history i).guest.0 < 2 ^ 8
    → op ≡ get_or (guest_ops programs (entry history i).guest.0) (slice_index next (entry history i).guest.0) no_unit_op → op.unit.0 < units shape
    → IsRunTo shape init programs history (i + 1) (after (call_of (entry history i).outcome op) false device) (read ++ bytes_of (entry history i).outcome op device.contents)
    (slice_set next (entry history i).guest.0 (slice_index next (entry history i).guest.0 + 1))
run_entry shape init programs history i device read next op r lt small is in_range =
    let e = entry history i in
    record {
      at = at_next shape i device e.outcome op r.at;
      next_each = length-set next e.guest.0 _ ∙ r.next_each;
      next_are = next_counted history i next lt r.next_each small r.next_are;
      follows = λ job j.
          let P : List Ended → Type 0 = λ h. IsUnmigrated job h (plain_of (after (call_of e.outcome op) false device) (read ++ bytes_of e.outcome op device.contents)) in
          let Q : Shape → Type 0 = λ s. op.unit.0 < units s in
          subst P (sym (take_more history i no_entry lt))
          (follow_next job (take i history) e e.outcome op device read refl (is ∙ op_of_job job shape init programs (take i history) e (slice_index next e.guest.0) j (r.next_are e.guest.0 small))
          (omega (arith, r.at.contents_each)) (subst Q (sym j.shape_is) in_range) (r.follows job j));
    }

pub run_next : (shape : Shape) (init : List Init) (programs : List Program) (history : List Ended) (i : ℕ) (device : Device) (read next : List ℕ) (e : Ended) (op : UnitOp) (device' : Device) (read' next' : List ℕ)
    → IsRunTo shape init programs history i device read next → i < length history → e ≡ entry history i → e.guest.0 < 2 ^ 8
    → op ≡ get_or (guest_ops programs e.guest.0) (slice_index next e.guest.0) no_unit_op → op.unit.0 < units shape
    → device' ≡ after (call_of e.outcome op) false device → read' ≡ read ++ bytes_of e.outcome op device.contents → next' ≡ slice_set next e.guest.0 (slice_index next e.guest.0 + 1)
    → IsRunTo shape init programs history (i + 1) device' read' next'
run_next shape init programs history i device read next e op device' read' next' r lt is small op_is in_range d_is r_is n_is =
    let S : Ended → Type 0 = λ x. x.guest.0 < 2 ^ 8 in
    let O : Ended → Type 0 = λ x. op ≡ get_or (guest_ops programs x.guest.0) (slice_index next x.guest.0) no_unit_op in
    let run = run_entry shape init programs history i device read next op r lt (subst S is small) (subst O is op_is) in_range in
    let E : Ended → Type 0 = λ x. IsRunTo shape init programs history (i + 1) (after (call_of x.outcome op) false device) (read ++ bytes_of x.outcome op device.contents) (slice_set next x.guest.0 (slice_index next x.guest.0 + 1)) in
    let D : Device → Type 0 = λ d. IsRunTo shape init programs history (i + 1) d (read ++ bytes_of e.outcome op device.contents) (slice_set next e.guest.0 (slice_index next e.guest.0 + 1)) in
    let R : List ℕ → Type 0 = λ bytes. IsRunTo shape init programs history (i + 1) device' bytes (slice_set next e.guest.0 (slice_index next e.guest.0 + 1)) in
    let N : List ℕ → Type 0 = λ ns. IsRunTo shape init programs history (i + 1) device' read' ns in
    subst N (sym n_is) (subst R (sym r_is) (subst D (sym d_is) (subst E (sym is) run)))

-- all entries have been run
pub run_all : (shape : Shape) (init : List Init) (programs : List Program) (history : List Ended) (i : ℕ) (device : Device) (read next : List ℕ) → IsRunTo shape init programs history i device read next → length history ≤ i
    → (job : Job) → IsJobOf job shape init programs → IsUnmigrated job history (plain_of device read)
run_all shape init programs history i device read next r le job j =
    let P : List Ended → Type 0 = λ h. IsUnmigrated job h (plain_of device read) in
    subst P (take_all i history le) (r.follows job j)

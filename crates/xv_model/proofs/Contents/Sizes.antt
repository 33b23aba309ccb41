-- The contents of a unit have the unit's size after each beginning of a legal history.
use Rattle.std.specs.Prelude.{◌≡◌, ◌≤◌, ◌<◌, ℕ, zero, suc, ◌+◌, ◌==◌, ◌%◌, Bool, true, false, List, [], ◌∷◌, ◌++◌, length, take, drop, is_some, Option, Some, None, slice_index, if◌then◌else◌}
use Rattle.std.proofs.Common.{arith, refl, ◌∙◌, subst}
use Rattle.std.proofs.lemmas.Bool.{and_parts, eqb-true, eq-eqb}
use Rattle.std.proofs.lemmas.List.{length-replicate, length-append, length-take, length-drop, length_push}
use Rattle.std.proofs.lemmas.List.Sums.{count_by_more_yes}
use Rattle.xv_model.proofs.Histories.{ended-take-le}
use Rattle.xv_base.specs.Initial.{first_content}
use Rattle.xv_model.specs.Job.{Job, Init, IsGoodJob, IsLegal, size, repeated, trace}
use Rattle.xv_model.specs.Guest.{Ended, ended, entry, no_entry, is_done, operation_at, writes_to, wrote, overlaid, written, content}

pub length-repeated : (pattern : List ℕ) (n : ℕ) → length (repeated pattern n) ≡ n
length-repeated pattern zero = refl
length-repeated pattern (suc n) =
    let one = length_push (repeated pattern n) (slice_index pattern (n % length pattern)) in
    let rest = length-repeated pattern n in
    omega arith

length-first_content : (init : List Init) (bytes unit : ℕ) → length (first_content init bytes unit) ≡ bytes
length-first_content [] bytes unit = length-replicate bytes 0
length-first_content (i ∷ is) bytes unit =
    elim (i.unit.0 == unit) as (λ b. length (if b then repeated i.pattern bytes else first_content is bytes unit) ≡ bytes) [
      | true ↦ length-repeated i.pattern bytes
      | false ↦ length-first_content is bytes unit
    ]

length-overlaid : (w : Option (List ℕ)) (offset len : ℕ) (x : List ℕ) → offset + len ≤ length x → length (overlaid w offset len x) ≡ length x
length-overlaid None offset len x le = refl
length-overlaid (Some pattern) offset len x le =
    let whole = length-append (take offset x ++ repeated pattern len) (drop (offset + len) x) in
    let front = length-append (take offset x) (repeated pattern len) in
    let a = length-take offset x in
    let b = length-repeated pattern len in
    let c = length-drop (offset + len) x in
    omega arith

-- a guest has ended fewer operations before its own entry than in all
ended-before : (h : List Ended) (n : ℕ) → n < length h → ended (take n h) (entry h n).guest.0 < ended h (entry h n).guest.0
ended-before h n lt =
    let g = (entry h n).guest.0 in
    let more : ended (take (n + 1) h) g ≡ ended (take n h) g + 1 = count_by_more_yes (λ e. e.guest.0 == g) h n no_entry lt (eq-eqb g g refl) in
    let all = ended-take-le h (n + 1) g in
    omega arith

-- the operation of each entry of a legal history is legal
pub operation_at-legal : (job : Job) (h : List Ended) (n : ℕ) → IsGoodJob job → ((guest : ℕ) → ended h guest ≤ length (trace job guest)) → n < length h → IsLegal job.shape (operation_at job h n)
operation_at-legal job h n good legal lt =
    let g = (entry h n).guest.0 in
    let before = ended-before h n lt in
    let all = legal g in
    good.legal g (ended (take n h) g) (omega arith)

length-written : (job : Job) (h : List Ended) (unit n : ℕ) (b : Bool) → IsLegal job.shape (operation_at job h n) → wrote job h unit n ≡ b → length (content job h unit n) ≡ size job.shape unit → length (written b (operation_at job h n) (content job h unit n)) ≡ size job.shape unit
length-written job h unit n false legal e before = before
length-written job h unit n true legal e before =
    let op = operation_at job h n in
    let to = (and_parts (is_done (entry h n).outcome) (writes_to op unit) e).1 in
    let same = eqb-true op.unit.0 unit (and_parts (is_some op.write) (op.unit.0 == unit) to).1 in
    let fits : op.offset + op.len ≤ size job.shape unit = subst (λ u. op.offset + op.len ≤ size job.shape u) same legal.in_unit in
    length-overlaid op.write op.offset op.len (content job h unit n) (omega arith) ∙ before

pub length-content : (job : Job) (h : List Ended) (unit n : ℕ) → IsGoodJob job → ((guest : ℕ) → ended h guest ≤ length (trace job guest)) → n ≤ length h → length (content job h unit n) ≡ size job.shape unit
length-content job h unit zero good legal le = length-first_content job.init (size job.shape unit) unit
length-content job h unit (suc n) good legal le =
    length-written job h unit n (wrote job h unit n) (operation_at-legal job h n good legal le) refl (length-content job h unit n good legal (omega arith))

-- A guest's operation on the source happened to the migration: it was done, was queued, or its call failed.
use Rattle.std.specs.Prelude.{◌≡◌, ◌≤◌, ◌<◌, ℕ, length, ◌&&◌, not, Bool, true, false, List, [], ◌∷◌, ◌++◌, take, Option, Some, None, is_some, is_none, unwrap_or, IfSome, if◌then◌else◌}
use Rattle.std.proofs.Common.{arith, refl, ap, sym, subst, ◌∙◌}
use Rattle.std.proofs.lemmas.List.{append-nil, length-append}
use Rattle.xv_base.specs.declared.answer.Note.{Note}
use Rattle.xv_base.specs.declared.answer.Turn.TheVariants.{Done, Queued, Faulted, Wait as Waits, Failed as Broke}
use Rattle.xv_base.specs.declared.event.Event.TheVariants.{Guest}
use Rattle.xv_base.specs.declared.operation.Outcome.{Outcome}
use Rattle.xv_base.specs.declared.operation.Outcome.TheVariants.{Done as WasDone, Faulted as HasFaulted}
use Rattle.xv_base.specs.declared.unit.GuestId.{GuestId}
use Rattle.xv_device.specs.Device.{range_of}
use Rattle.xv_device.specs.Told.{Told}
use Rattle.xv_model.specs.Job.{Job, UnitOp, operation, trace}
use Rattle.xv_model.specs.Guest.{Ended, ended, is_done, reads}
use Rattle.xv_model.specs.View.{View, is_running, is_switched}
use Rattle.xv_model.specs.Wait.{Why, Aim, Alone, Store, Join, Mirror, wait, fits, next_operation, next_aim, is_join}
use Rattle.xv_model.specs.Effect.{Turn, answer, ended_as, guest_by, guest_done, guest_answer, note}
use Rattle.xv_model.specs.Step.{turn_by, view_by, breaks, step, guest_call, is_call, is_flagged, is_wait}
use Rattle.xv_model.specs.Contents.{Contents, contents_by, step_contents, guest_moves, after_operation, read_of}
use Rattle.xv_model.specs.Outside.{Outside, NoOutside, outside, guest_outside}
use Rattle.xv_job.specs.Written.{job_of}
use Rattle.xv_source.specs.Half.{Source, IsSourceOf, HasSourceBytes, with_source}
use Rattle.xv_source.specs.Step.{StepsSource, MakesCall, ReadsInto, operation_call}
use Rattle.xv_dest.specs.Half.{Dest, IsDestOf, with_dest}
use Rattle.xv_core.specs.Seen.{OnDevice}
use Rattle.xv_core.specs.State.{State, view, both_tell, contents_of, on_source, IsRunning, IsCarriedOver}
use Rattle.xv_core.specs.Happening.{OneCall, Happened}
use Rattle.xv_core.specs.Reads.{read_length}
use Rattle.xv_core.specs.Answered.{ended_by, read_by}
use Rattle.xv_model.proofs.Histories.{push}
use Rattle.xv_model.proofs.GoesOn.{guest_goes}
use Rattle.xv_core.proofs.Keeping.Calls.{next-legal}
use Rattle.xv_core.proofs.Keeping.Joined.{shows, joined-contents, is_dest_of, has_source_bytes, has_dest_bytes}
use Rattle.xv_core.proofs.GuestEvents.Operating.{reads-longer, length-read, operated, happened, goes-on, calls-source, dest-bytes, source-is-whole}

-- the halves' parts of the view after an operation
pub guest-keeps-dest : (job : Job) (v : View) (g : ℕ) (op : UnitOp) (a : Aim) (h : Dest) → IsDestOf job v h → IsDestOf job (guest_by job v g op a) h
guest-keeps-dest job v g op a h is = record {
  shape = is.shape;
  limit = is.limit;
  part = subst (λ (u : View). with_dest (guest_by job u g op a) h ≡ guest_by job u g op a) is.part refl;
}

pub ended-keeps-dest : (job : Job) (v : View) (g : ℕ) (o : Outcome) (h : Dest) → IsDestOf job v h → IsDestOf job (ended_as v g o) h
ended-keeps-dest job v g o h is = record {
  shape = is.shape;
  limit = is.limit;
  part = subst (λ (u : View). with_dest (ended_as u g o) h ≡ ended_as u g o) is.part refl;
}

pub ended-keeps-source : (job : Job) (v : View) (g : ℕ) (o : Outcome) (h : Source) → IsSourceOf job v h → IsSourceOf job (ended_as v g o) h
ended-keeps-source job v g o h is = record {
  limits = is.limits;
  part = subst (λ (u : View). with_source (ended_as u g o) h ≡ ended_as u g o) is.part refl;
}

-- what an answer says of the operation's aim
pub done-joins-not : (j : Bool) (n : Note) (t : Turn) → Done n ≡ (if j then Queued else t) → j ≡ false
done-joins-not true n t is = absurd (cc)
done-joins-not false n t is = refl

queued-joins : (j : Bool) (a b : ℕ) → Queued ≡ (if j then Queued else note a b) → j ≡ true
queued-joins true a b is = refl
queued-joins false a b is = absurd (cc)

unflagged : (j : Bool) (a b : ℕ) → is_flagged (if j then Queued else note a b) ≡ false
unflagged true a b = refl
unflagged false a b = refl

pub faulted-breaks : (b : Bool) (job : Job) (v : View) (g : GuestId) → Faulted ≡ turn_by None b job v (Guest g) → b ≡ true
faulted-breaks true job v g is = refl
faulted-breaks false job v g is =
    let flagged : true ≡ is_flagged (answer job v (Guest g)) = ap is_flagged is in
    let un : is_flagged (answer job v (Guest g)) ≡ false = unflagged (is_join (next_aim job v g.0)) (if is_some (next_operation job v g.0).write then 0 else (next_operation job v g.0).len) 0 in
    absurd (cc)

pub calls-joins-not : (j switched writes : Bool) → is_call (guest_call j switched writes) ≡ true → j ≡ false
calls-joins-not true switched writes is = absurd (cc)
calls-joins-not false switched writes is = refl

-- only writes are queued
join-writes : (run writes page behind inside : Bool) →
    is_join (if not (run && writes) then Alone else (if page then Store else (if behind then Mirror else (if inside then Join else Alone)))) ≡ true → writes ≡ true
join-writes true true page behind inside is = refl
join-writes true false page behind inside is = absurd (cc)
join-writes false writes page behind inside is = absurd (cc)

-- an operation ends by its own answers alone
abbrev pub is_ending : Turn → Bool
is_ending (Done n) = true
is_ending Queued = true
is_ending Faulted = true
is_ending (Waits why) = true
is_ending (Broke cause) = false

ending-if : (j : Bool) (a b : ℕ) → is_ending (if j then Queued else note a b) ≡ true
ending-if true a b = refl
ending-if false a b = refl

pub is-ending : (w : Option Why) (b : Bool) (job : Job) (v : View) (g : GuestId) → is_ending (turn_by w b job v (Guest g)) ≡ true
is-ending (Some why) b job v g = refl
is-ending None true job v g = refl
is-ending None false job v g = ending-if (is_join (next_aim job v g.0)) (if is_some (next_operation job v g.0).write then 0 else (next_operation job v g.0).len) 0

-- the bytes of a read that was done
both-if : (b : Bool) (xs ys : List ℕ) → (b ≡ true → xs ≡ ys) → (if b then xs else []) ≡ (if b then ys else [])
both-if true xs ys e = e refl
both-if false xs ys e = refl

none-is : (w : Option (List ℕ)) → is_none w ≡ true → w ≡ None
none-is None e = refl
none-is (Some p) e = absurd (cc)

of-some : (P : List (List ℕ) → Type 0) (o : Option (List (List ℕ))) → is_some o ≡ true → IfSome o P → P (unwrap_or o [])
of-some P None e f = absurd (cc)
of-some P (Some x) e f = f

pub read-done : (op : UnitOp) (n : Note) (bytes : List ℕ) (o : Option (List (List ℕ))) → is_some o ≡ true → (op.write ≡ None → IfSome o (λ contents. take op.len bytes ≡ range_of op.unit.0 op.offset op.len contents)) →
    read_of op (unwrap_or o []) ≡ read_by op (Done n) bytes
read-done op n bytes o tells gives =
    both-if (is_none op.write) _ _ (λ reads_it. sym (of-some (λ contents. take op.len bytes ≡ range_of op.unit.0 op.offset op.len contents) o tells (gives (none-is op.write reads_it))))

read-none : (w : Option (List ℕ)) (xs : List ℕ) → is_some w ≡ true → (if is_none w then xs else []) ≡ []
read-none None xs e = absurd (cc)
read-none (Some p) xs e = refl

-- how many bytes are read once the operation has ended, or where it is queued
pub done-reads : (s : State) (g : GuestId) (n : Note) (bytes : List ℕ) → IsRunning s → ended (view s).history g.0 < length (trace (job_of s.job) g.0) → 64 ≤ length bytes →
    length (s.reads ++ read_by (next_operation (job_of s.job) (view s) g.0) (Done n) bytes)
    ≡ length (reads (job_of s.job) (push (view s).history (record { guest = g; outcome = WasDone })) (length (push (view s).history (record { guest = g; outcome = WasDone }))))
done-reads s g n bytes r more_there long =
    let op = next_operation (job_of s.job) (view s) g.0 in
    let read = length-read op.write op.len bytes long (next-legal s g.0 r more_there).short_read in
    length-append s.reads (read_by op (Done n) bytes) ∙ reads-longer s (record { guest = g; outcome = WasDone }) (length (read_by op (Done n) bytes)) r more_there read

pub faulted-reads : (s : State) (e : Ended) → IsRunning s → ended (view s).history e.guest.0 < length (trace (job_of s.job) e.guest.0) → is_done e.outcome ≡ false →
    length s.reads ≡ length (reads (job_of s.job) (push (view s).history e) (length (push (view s).history e)))
faulted-reads s e r more_there faulted =
    let h = (view s).history in
    let none : 0 ≡ (if is_done e.outcome then read_length (operation (job_of s.job) e.guest.0 (ended h e.guest.0)) else 0) =
    sym (ap (λ (b : Bool). if b then read_length (operation (job_of s.job) e.guest.0 (ended h e.guest.0)) else 0) faulted) in
    omega (arith, reads-longer s e 0 r more_there none)

-- what the operation on the source had and did
pub record AtSource (s : State) (g : GuestId) (a : Turn) (new : Source) (bytes : List ℕ) (op : UnitOp) : Type 0 where
  pub running : IsRunning s
  pub carried : IsCarriedOver s.streams s.back
  pub fitting : fits (job_of s.job) (Guest g) ≡ true
  pub on_source : is_switched (view s).phase ≡ false
  pub goes_on : is_wait a ≡ false
  pub steps : StepsSource (job_of s.job) (view s) (Guest g) a s.source new
  pub call : MakesCall (operation_call s.source.shape op) a s.source new
  pub gives : ReadsInto op a bytes s.source.told
  pub long : 64 ≤ length bytes

abbrev pub at_source : State → GuestId → Turn → Source → List ℕ → UnitOp → State
at_source s g a new bytes op = operated s (Guest g) a (s.history ++ ended_by g a) new s.dest (s.reads ++ read_by op a bytes)

-- the operation was done
done-contents : (s : State) (g : GuestId) (n : Note) (new : Source) (bytes : List ℕ) → AtSource s g (Done n) new bytes (next_operation (job_of s.job) (view s) g.0) → wait (job_of s.job) (view s) (Guest g) false ≡ None → both_tell s ≡ true →
    contents_of (at_source s g (Done n) new bytes (next_operation (job_of s.job) (view s) g.0)) ≡ step_contents (job_of s.job) (view s) (Guest g) false (contents_of s)
done-contents s g n new bytes x goes both =
    let job = job_of s.job in
    let v = view s in
    let c = contents_of s in
    let op = next_operation job v g.0 in
    let off = x.on_source in
    let moved : step_contents job v (Guest g) false c ≡ guest_moves job v g.0 c = ap (λ (w : Option Why). contents_by w false job v (Guest g) c) goes in
    let has : HasSourceBytes (guest_moves job v g.0 c) new = subst (λ (d : Contents). HasSourceBytes d new) moved (x.steps.bytes c refl (has_source_bytes s both) (source-is-whole s x.running both)) in
    let reads : read_of op (if is_switched v.phase then c.dest else c.source) ≡ read_by op (Done n) bytes =
    ap (λ (b : Bool). read_of op (if b then c.dest else c.source)) off ∙ read-done op n bytes s.source.told.contents (has_source_bytes s both).told (x.gives.gives refl refl) in
    joined-contents (at_source s g (Done n) new bytes op) (guest_moves job v g.0 c) refl (ap (λ (xs : List ℕ). s.reads ++ xs) reads) has.part
    (dest-bytes (guest_moves job v g.0 c) s.dest (sym (ap (λ (b : Bool). if b then after_operation op c.dest else c.dest) off)) refl)
    ∙ sym moved

source-done : (s : State) (g : GuestId) (n : Note) (new : Source) (bytes : List ℕ) → AtSource s g (Done n) new bytes (next_operation (job_of s.job) (view s) g.0) →
    Happened s (Guest g) (Done n) (at_source s g (Done n) new bytes (next_operation (job_of s.job) (view s) g.0))
source-done s g n new bytes x =
    let job = job_of s.job in
    let v = view s in
    let op = next_operation job v g.0 in
    let a = next_aim job v g.0 in
    let shown = shows s x.running in
    let goes : wait job v (Guest g) false ≡ None = goes-on job v (Guest g) (Done n) x.steps.answers refl in
    let answers : Done n ≡ guest_answer op a = x.steps.answers ∙ ap (λ (w : Option Why). turn_by w false job v (Guest g)) goes in
    let no_join : is_join a ≡ false = done-joins-not (is_join a) n _ answers in
    let stepped : step job v (Guest g) false ≡ guest_done job v g.0 = ap (λ (w : Option Why). view_by w false job v (Guest g)) goes in
    let ends : List Ended = record { guest = g; outcome = WasDone } ∷ [] in
    let made = x.call.made refl in
    let out : guest_outside false false op ≡ outside job v (Guest g) = sym (ap (λ (j : Bool). guest_outside j (is_switched v.phase) op) no_join ∙ ap (λ (b : Bool). guest_outside false b op) x.on_source) in
    let t = at_source s g (Done n) new bytes op in
    happened s (Guest g) (Done n) (s.history ++ ends) new s.dest (s.reads ++ read_by op (Done n) bytes) (guest_done job v g.0) x.running x.carried (record {
      fitting = x.fitting;
      goes_on = refl;
      answers = x.steps.answers;
      stepped = stepped;
      rest = record {
        longer = ap (λ (j : Bool). if j then v.history else v.history ++ ends) no_join ∙ ap (λ (h : List Ended). h ++ ends) shown.history;
        stun = shown.stun;
        phase = shown.phase;
        streams = shown.streams;
        acks = shown.acks;
      };
      of_source = subst (λ (u : View). IsSourceOf job u new) stepped (x.steps.part refl);
      of_dest = guest-keeps-dest job v g.0 op a s.dest (is_dest_of s x.running);
      source_layout = ap (λ (told : Told). told.shape) made.told;
      dest_layout = refl;
      contents = λ both. done-contents s g n new bytes x goes both;
      read = read_by op (Done n) bytes;
      behind = refl;
      more_read = subst (λ (h : List Ended). length (s.reads ++ read_by op (Done n) bytes) ≡ length (reads job h (length h))) (sym (ap (λ (j : Bool). if j then v.history else v.history ++ ends) no_join))
          (done-reads s g n bytes x.running (guest_goes job v g.0 false goes).more x.long);
      calls = subst (λ (o : Outside). OneCall o false s t) out (calls-source s.source.shape op op.write false s t made refl refl refl);
    })

-- it was queued
queued-contents : (s : State) (g : GuestId) (new : Source) (bytes : List ℕ) → AtSource s g Queued new bytes (next_operation (job_of s.job) (view s) g.0) → wait (job_of s.job) (view s) (Guest g) false ≡ None → is_join (next_aim (job_of s.job) (view s) g.0) ≡ true → both_tell s ≡ true →
    contents_of (at_source s g Queued new bytes (next_operation (job_of s.job) (view s) g.0)) ≡ step_contents (job_of s.job) (view s) (Guest g) false (contents_of s)
queued-contents s g new bytes x goes joins both =
    let job = job_of s.job in
    let v = view s in
    let c = contents_of s in
    let op = next_operation job v g.0 in
    let off = x.on_source in
    let moved : step_contents job v (Guest g) false c ≡ guest_moves job v g.0 c = ap (λ (w : Option Why). contents_by w false job v (Guest g) c) goes in
    let has : HasSourceBytes (guest_moves job v g.0 c) new = subst (λ (d : Contents). HasSourceBytes d new) moved (x.steps.bytes c refl (has_source_bytes s both) (source-is-whole s x.running both)) in
    let writes : is_some op.write ≡ true = join-writes (is_running v.phase) (is_some op.write) _ _ _ joins in
    joined-contents (at_source s g Queued new bytes op) (guest_moves job v g.0 c) refl (ap (λ (xs : List ℕ). s.reads ++ xs) (read-none op.write _ writes)) has.part
    (dest-bytes (guest_moves job v g.0 c) s.dest (sym (ap (λ (b : Bool). if b then after_operation op c.dest else c.dest) off)) refl)
    ∙ sym moved

source-queued : (s : State) (g : GuestId) (new : Source) (bytes : List ℕ) → AtSource s g Queued new bytes (next_operation (job_of s.job) (view s) g.0) →
    Happened s (Guest g) Queued (at_source s g Queued new bytes (next_operation (job_of s.job) (view s) g.0))
source-queued s g new bytes x =
    let job = job_of s.job in
    let v = view s in
    let op = next_operation job v g.0 in
    let a = next_aim job v g.0 in
    let shown = shows s x.running in
    let goes : wait job v (Guest g) false ≡ None = goes-on job v (Guest g) Queued x.steps.answers refl in
    let answers : Queued ≡ guest_answer op a = x.steps.answers ∙ ap (λ (w : Option Why). turn_by w false job v (Guest g)) goes in
    let joins : is_join a ≡ true = queued-joins (is_join a) _ _ answers in
    let stepped : step job v (Guest g) false ≡ guest_done job v g.0 = ap (λ (w : Option Why). view_by w false job v (Guest g)) goes in
    let same = x.call.none refl in
    let untouched : on_source new ≡ on_source s.source =
    ap (λ (told : Told). let d : OnDevice = record { told = told; faults = new.faults } in d) same.0 ∙ ap (λ (n : ℕ). let d : OnDevice = record { told = s.source.told; faults = n } in d) same.1 in
    let out : NoOutside ≡ outside job v (Guest g) = sym (ap (λ (j : Bool). guest_outside j (is_switched v.phase) op) joins) in
    let t = at_source s g Queued new bytes op in
    happened s (Guest g) Queued (s.history ++ []) new s.dest (s.reads ++ []) (guest_done job v g.0) x.running x.carried (record {
      fitting = x.fitting;
      goes_on = refl;
      answers = x.steps.answers;
      stepped = stepped;
      rest = record {
        longer = ap (λ (j : Bool). if j then v.history else v.history ++ record { guest = g; outcome = WasDone } ∷ []) joins ∙ shown.history ∙ sym (append-nil s.history);
        stun = shown.stun;
        phase = shown.phase;
        streams = shown.streams;
        acks = shown.acks;
      };
      of_source = subst (λ (u : View). IsSourceOf job u new) stepped (x.steps.part refl);
      of_dest = guest-keeps-dest job v g.0 op a s.dest (is_dest_of s x.running);
      source_layout = ap (λ (told : Told). told.shape) same.0;
      dest_layout = refl;
      contents = λ both. queued-contents s g new bytes x goes joins both;
      read = [];
      behind = refl;
      more_read = subst (λ (h : List Ended). length (s.reads ++ []) ≡ length (reads job h (length h))) (sym (ap (λ (j : Bool). if j then v.history else v.history ++ record { guest = g; outcome = WasDone } ∷ []) joins))
          (ap (λ (xs : List ℕ). length xs) (append-nil s.reads) ∙ x.running.reads_long);
      calls = subst (λ (o : Outside). OneCall o false s t) out (record { source = untouched; dest = refl; streams = refl; back = refl });
    })

-- its call failed
source-faulted : (s : State) (g : GuestId) (new : Source) (bytes : List ℕ) → AtSource s g Faulted new bytes (next_operation (job_of s.job) (view s) g.0) →
    Happened s (Guest g) Faulted (at_source s g Faulted new bytes (next_operation (job_of s.job) (view s) g.0))
source-faulted s g new bytes x =
    let job = job_of s.job in
    let v = view s in
    let c = contents_of s in
    let op = next_operation job v g.0 in
    let shown = shows s x.running in
    let goes : wait job v (Guest g) true ≡ None = goes-on job v (Guest g) Faulted x.steps.answers refl in
    let broke : breaks job v (Guest g) true ≡ true = faulted-breaks (breaks job v (Guest g) true) job v g (x.steps.answers ∙ ap (λ (w : Option Why). turn_by w (breaks job v (Guest g) true) job v (Guest g)) goes) in
    let no_join : is_join (next_aim job v g.0) ≡ false = calls-joins-not (is_join (next_aim job v g.0)) (is_switched v.phase) (is_some op.write) broke in
    let stepped : step job v (Guest g) true ≡ ended_as v g.0 HasFaulted =
    ap (λ (w : Option Why). view_by w (breaks job v (Guest g) true) job v (Guest g)) goes ∙ ap (λ (b : Bool). view_by None b job v (Guest g)) broke in
    let kept : step_contents job v (Guest g) true c ≡ c =
    ap (λ (w : Option Why). contents_by w (breaks job v (Guest g) true) job v (Guest g) c) goes ∙ ap (λ (b : Bool). contents_by None b job v (Guest g) c) broke in
    let ends : List Ended = record { guest = g; outcome = HasFaulted } ∷ [] in
    let made = x.call.made refl in
    let out : guest_outside false false op ≡ outside job v (Guest g) = sym (ap (λ (j : Bool). guest_outside j (is_switched v.phase) op) no_join ∙ ap (λ (b : Bool). guest_outside false b op) x.on_source) in
    let t = at_source s g Faulted new bytes op in
    happened s (Guest g) Faulted (s.history ++ ends) new s.dest (s.reads ++ []) (ended_as v g.0 HasFaulted) x.running x.carried (record {
      fitting = x.fitting;
      goes_on = refl;
      answers = x.steps.answers;
      stepped = stepped;
      rest = record {
        longer = ap (λ (h : List Ended). h ++ ends) shown.history;
        stun = shown.stun;
        phase = shown.phase;
        streams = shown.streams;
        acks = shown.acks;
      };
      of_source = ended-keeps-source job v g.0 HasFaulted new (x.steps.failed refl);
      of_dest = ended-keeps-dest job v g.0 HasFaulted s.dest (is_dest_of s x.running);
      source_layout = ap (λ (told : Told). told.shape) made.told;
      dest_layout = refl;
      contents = λ both.
          joined-contents t c refl (sym (append-nil s.reads)) (x.steps.failed_bytes c refl (has_source_bytes s both)).part (has_dest_bytes s both).part ∙ sym kept;
      read = [];
      behind = refl;
      more_read = ap (λ (xs : List ℕ). length xs) (append-nil s.reads) ∙ faulted-reads s (record { guest = g; outcome = HasFaulted }) x.running (guest_goes job v g.0 true goes).more refl;
      calls = subst (λ (o : Outside). OneCall o true s t) out (calls-source s.source.shape op op.write true s t made refl refl refl);
    })

-- A guest's operation on the source, however it was answered.
by-answer : (s : State) (g : GuestId) (a : Turn) (new : Source) (bytes : List ℕ) → AtSource s g a new bytes (next_operation (job_of s.job) (view s) g.0) →
    Happened s (Guest g) a (at_source s g a new bytes (next_operation (job_of s.job) (view s) g.0))
by-answer s g (Done n) new bytes x = source-done s g n new bytes x
by-answer s g Queued new bytes x = source-queued s g new bytes x
by-answer s g Faulted new bytes x = source-faulted s g new bytes x
by-answer s g (Waits why) new bytes x = let no : true ≡ false = x.goes_on in absurd (cc)
by-answer s g (Broke cause) new bytes x =
    let job = job_of s.job in
    let no : false ≡ true = ap is_ending x.steps.answers ∙ is-ending (wait job (view s) (Guest g) true) (breaks job (view s) (Guest g) true) job (view s) g in
    absurd (cc)

pub guest-at-source : (s : State) (g : GuestId) (a : Turn) (new : Source) (bytes : List ℕ) (op : UnitOp) → next_operation (job_of s.job) (view s) g.0 ≡ op → AtSource s g a new bytes op →
    Happened s (Guest g) a (at_source s g a new bytes op)
guest-at-source s g a new bytes op next x =
    subst (λ (o : UnitOp). Happened s (Guest g) a (at_source s g a new bytes o)) next
    (by-answer s g a new bytes (subst (AtSource s g a new bytes) (sym next) x))

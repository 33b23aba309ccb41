-- A guest's operation on the destination happened to the migration: it was done, or its call failed.
use Rattle.std.specs.Prelude.{◌≡◌, ◌≤◌, ℕ, length, ◌&&◌, ◌||◌, not, Bool, true, false, List, [], ◌∷◌, ◌++◌, Option, Some, None, is_some, unwrap_or, if◌then◌else◌}
use Rattle.std.proofs.Common.{refl, ap, sym, subst, ◌∙◌}
use Rattle.std.proofs.lemmas.List.{append-nil}
use Rattle.xv_base.specs.Pattern.{repeated}
use Rattle.xv_base.specs.Units.{Shape, is_page}
use Rattle.xv_base.specs.declared.answer.Note.{Note}
use Rattle.xv_base.specs.declared.answer.Turn.TheVariants.{Done, Queued, Faulted, Wait as Waits, Failed as Broke}
use Rattle.xv_base.specs.declared.event.Event.TheVariants.{Guest}
use Rattle.xv_base.specs.declared.event.Phase.TheVariants.{Running, Stunned, Switched, Cancelled, Failed}
use Rattle.xv_base.specs.declared.operation.Outcome.TheVariants.{Done as WasDone, Faulted as HasFaulted}
use Rattle.xv_base.specs.declared.unit.GuestId.{GuestId}
use Rattle.xv_device.specs.Device.{DeviceCall}
use Rattle.xv_device.specs.Operations.{operation_call, operation_call_by, AreRead}
use Rattle.xv_device.specs.Told.{Told, CallMade}
use Rattle.xv_model.specs.Job.{Job, UnitOp}
use Rattle.xv_model.specs.Guest.{Ended}
use Rattle.xv_model.specs.View.{View, Phase, is_running, is_switched}
use Rattle.xv_model.specs.Wait.{Why, Aim, Alone, Store, Join, Mirror, wait, fits, next_operation, next_aim, is_join, is_mirror}
use Rattle.xv_model.specs.Effect.{Turn, ended_as, guest_by, guest_answer}
use Rattle.xv_model.specs.Step.{turn_by, view_by, breaks, step, is_flagged, is_wait}
use Rattle.xv_model.specs.Contents.{Contents, contents_by, step_contents, guest_moves, after_operation, read_of, unit_content}
use Rattle.xv_model.specs.Outside.{Outside, WriteDest, ReadDest, outside, guest_outside, part_of}
use Rattle.xv_job.specs.Written.{job_of}
use Rattle.xv_source.specs.Half.{Source, IsSourceOf, with_source, with_source_bytes}
use Rattle.xv_dest.specs.Half.{Dest, IsDestOf, HasDestBytes}
use Rattle.xv_dest.specs.Step.{StepsDest, MovesDest, MakesCall, went_out}
use Rattle.xv_core.specs.Calls.{Made}
use Rattle.xv_core.specs.State.{State, view, both_tell, contents_of, on_source, on_dest, IsRunning, IsCarriedOver}
use Rattle.xv_core.specs.Happening.{OneCall, Happened}
use Rattle.xv_core.specs.Answered.{ended_by, read_by}
use Rattle.xv_model.proofs.Contents.Sizes.{length-repeated}
use Rattle.xv_model.proofs.GoesOn.{guest_goes}
use Rattle.xv_core.proofs.Keeping.Joined.{shows, joined-contents, is_source_of, has_source_bytes, has_dest_bytes}
use Rattle.xv_core.proofs.GuestEvents.Operating.{operated, happened, goes-on, covering}
use Rattle.xv_core.proofs.GuestEvents.AtSource.{done-reads, faulted-reads, ended-keeps-dest, ended-keeps-source, faulted-breaks, is_ending, is-ending, read-done}

-- the device's call of an operation is the one that the machine makes of it on the destination
calls-dest : (shape : Shape) (op : UnitOp) (w : Option (List ℕ)) (failed : Bool) (s t : State) →
    CallMade (operation_call_by shape op w) failed s.dest.told t.dest.told s.dest.faults t.dest.faults → on_source t.source ≡ on_source s.source → t.streams.lanes ≡ s.streams.lanes → t.back ≡ s.back →
    OneCall (if is_some w then WriteDest (part_of op) else ReadDest (part_of op)) failed s t
calls-dest shape op None failed s t made source lanes back = record { source = source; dest = made; streams = lanes; back = back }
calls-dest shape op (Some pattern) failed s t made source lanes back = record {
  source = source;
  dest = record {
    patches = is_page shape op.unit.0;
    bytes = repeated pattern op.len;
    covers = length-repeated pattern op.len;
    made = subst (λ (c : DeviceCall). Made c failed (on_dest s.dest) (on_dest t.dest)) (covering (is_page shape op.unit.0) (part_of op) (repeated pattern op.len)) made;
  };
  streams = lanes;
  back = back;
}

-- contents of which the source's half has its part
source-bytes : (c : Contents) (h : Source) → unwrap_or h.told.contents [] ≡ c.source → h.regions ≡ c.regions → h.contents ≡ c.outbox → with_source_bytes c h ≡ c
source-bytes c h source regions outbox =
    ap (λ (x : List (List ℕ)). record c { source = x; regions = h.regions; outbox = h.contents }) source
    ∙ ap (λ (x : List (List (List ℕ))). record c { regions = x; outbox = h.contents }) regions
    ∙ ap (λ (x : List (List ℕ)). record c { outbox = x }) outbox

-- an operation asks nothing of a migration that does not run
running-no-more : (p : Phase) → is_switched p ≡ true → is_running p ≡ false
running-no-more Running on = absurd (cc)
running-no-more Stunned on = refl
running-no-more Switched on = refl
running-no-more Cancelled on = refl
running-no-more Failed on = refl

pub alone-by : (run writes page behind inside : Bool) → run ≡ false →
    (if not (run && writes) then Alone else (if page then Store else (if behind then Mirror else (if inside then Join else Alone)))) ≡ Alone
alone-by false writes page behind inside off = refl
alone-by true writes page behind inside off = absurd (cc)

alone : (job : Job) (v : View) (g : ℕ) → is_switched v.phase ≡ true → next_aim job v g ≡ Alone
alone job v g on = alone-by (is_running v.phase) (is_some (next_operation job v g).write) _ _ _ (running-no-more v.phase on)

alone-keeps-source : (job : Job) (v : View) (g : ℕ) (op : UnitOp) (h : Source) → IsSourceOf job v h → IsSourceOf job (guest_by job v g op Alone) h
alone-keeps-source job v g op h is = record {
  limits = is.limits;
  part = subst (λ (u : View). with_source (guest_by job u g op Alone) h ≡ guest_by job u g op Alone) is.part refl;
}

-- what the operation on the destination had and did
pub record AtDest (s : State) (g : GuestId) (a : Turn) (new : Dest) (bytes : List ℕ) (op : UnitOp) : Type 0 where
  pub running : IsRunning s
  pub carried : IsCarriedOver s.streams s.back
  pub fitting : fits (job_of s.job) (Guest g) ≡ true
  pub on_dest : is_switched (view s).phase ≡ true
  pub goes_on : is_wait a ≡ false
  pub steps : StepsDest (job_of s.job) (view s) (Guest g) a s.dest new
  pub moves : both_tell s ≡ true → MovesDest (job_of s.job) (view s) (contents_of s) (Guest g) a new
  pub call : MakesCall (operation_call s.dest.shape op) a s.dest new
  pub gives : went_out a ≡ true → is_flagged a ≡ false → AreRead op bytes s.dest.told
  pub long : 64 ≤ length bytes

abbrev pub at_dest : State → GuestId → Turn → Dest → List ℕ → UnitOp → State
at_dest s g a new bytes op = operated s (Guest g) a (s.history ++ ended_by g a) s.source new (s.reads ++ read_by op a bytes)

calls-at-dest : (s : State) (g : GuestId) → is_switched (view s).phase ≡ true → guest_outside false true (next_operation (job_of s.job) (view s) g.0) ≡ outside (job_of s.job) (view s) (Guest g)
calls-at-dest s g on =
    let v = view s in
    let op = next_operation (job_of s.job) v g.0 in
    sym (ap (λ (a : Aim). guest_outside (is_join a) (is_switched v.phase) op) (alone (job_of s.job) v g.0 on) ∙ ap (λ (b : Bool). guest_outside false b op) on)

-- the operation was done
done-contents : (s : State) (g : GuestId) (n : Note) (new : Dest) (bytes : List ℕ) → AtDest s g (Done n) new bytes (next_operation (job_of s.job) (view s) g.0) → wait (job_of s.job) (view s) (Guest g) false ≡ None → both_tell s ≡ true →
    contents_of (at_dest s g (Done n) new bytes (next_operation (job_of s.job) (view s) g.0)) ≡ step_contents (job_of s.job) (view s) (Guest g) false (contents_of s)
done-contents s g n new bytes x goes both =
    let job = job_of s.job in
    let v = view s in
    let c = contents_of s in
    let op = next_operation job v g.0 in
    let on = x.on_dest in
    let moved : step_contents job v (Guest g) false c ≡ guest_moves job v g.0 c = ap (λ (w : Option Why). contents_by w false job v (Guest g) c) goes in
    let has : HasDestBytes (guest_moves job v g.0 c) new = subst (λ (d : Contents). HasDestBytes d new) moved ((x.moves both).moved refl) in
    let reads : read_of op (if is_switched v.phase then c.dest else c.source) ≡ read_by op (Done n) bytes =
    ap (λ (b : Bool). read_of op (if b then c.dest else c.source)) on ∙ read-done op n bytes s.dest.told.contents (has_dest_bytes s both).told (x.gives refl refl) in
    let made = c.outbox ++ unit_content (after_operation op c.source) op.unit.0 ∷ [] in
    joined-contents (at_dest s g (Done n) new bytes op) (guest_moves job v g.0 c) refl (ap (λ (xs : List ℕ). s.reads ++ xs) reads)
    (source-bytes (guest_moves job v g.0 c) s.source
    (sym (ap (λ (b : Bool). if b || is_join (next_aim job v g.0) then c.source else after_operation op c.source) on)) refl
    (sym (ap (λ (a : Aim). if is_mirror a then made else c.outbox) (alone job v g.0 on))))
    has.part
    ∙ sym moved

dest-done : (s : State) (g : GuestId) (n : Note) (new : Dest) (bytes : List ℕ) → AtDest s g (Done n) new bytes (next_operation (job_of s.job) (view s) g.0) →
    Happened s (Guest g) (Done n) (at_dest s g (Done n) new bytes (next_operation (job_of s.job) (view s) g.0))
dest-done s g n new bytes x =
    let job = job_of s.job in
    let v = view s in
    let op = next_operation job v g.0 in
    let shown = shows s x.running in
    let goes : wait job v (Guest g) false ≡ None = goes-on job v (Guest g) (Done n) x.steps.answers refl in
    let stepped : step job v (Guest g) false ≡ guest_by job v g.0 op Alone =
    ap (λ (w : Option Why). view_by w false job v (Guest g)) goes ∙ ap (λ (a : Aim). guest_by job v g.0 op a) (alone job v g.0 x.on_dest) in
    let ends : List Ended = record { guest = g; outcome = WasDone } ∷ [] in
    let made = x.call.made refl in
    let t = at_dest s g (Done n) new bytes op in
    happened s (Guest g) (Done n) (s.history ++ ends) s.source new (s.reads ++ read_by op (Done n) bytes) (guest_by job v g.0 op Alone) x.running x.carried (record {
      fitting = x.fitting;
      goes_on = refl;
      answers = x.steps.answers;
      stepped = stepped;
      rest = record {
        longer = ap (λ (h : List Ended). h ++ ends) shown.history;
        stun = shown.stun;
        phase = shown.phase;
        streams = shown.streams;
        acks = shown.acks;
      };
      of_source = alone-keeps-source job v g.0 op s.source (is_source_of s x.running);
      of_dest = subst (λ (u : View). IsDestOf job u new) stepped (x.steps.part refl);
      source_layout = refl;
      dest_layout = ap (λ (told : Told). told.shape) made.told;
      contents = λ both. done-contents s g n new bytes x goes both;
      read = read_by op (Done n) bytes;
      behind = refl;
      more_read = done-reads s g n bytes x.running (guest_goes job v g.0 false goes).more x.long;
      calls = subst (λ (o : Outside). OneCall o false s t) (calls-at-dest s g x.on_dest) (calls-dest s.dest.shape op op.write false s t made refl refl refl);
    })

-- its call failed
dest-faulted : (s : State) (g : GuestId) (new : Dest) (bytes : List ℕ) → AtDest s g Faulted new bytes (next_operation (job_of s.job) (view s) g.0) →
    Happened s (Guest g) Faulted (at_dest s g Faulted new bytes (next_operation (job_of s.job) (view s) g.0))
dest-faulted s g new bytes x =
    let job = job_of s.job in
    let v = view s in
    let c = contents_of s in
    let op = next_operation job v g.0 in
    let shown = shows s x.running in
    let goes : wait job v (Guest g) true ≡ None = goes-on job v (Guest g) Faulted x.steps.answers refl in
    let broke : breaks job v (Guest g) true ≡ true = faulted-breaks (breaks job v (Guest g) true) job v g (x.steps.answers ∙ ap (λ (w : Option Why). turn_by w (breaks job v (Guest g) true) job v (Guest g)) goes) in
    let stepped : step job v (Guest g) true ≡ ended_as v g.0 HasFaulted =
    ap (λ (w : Option Why). view_by w (breaks job v (Guest g) true) job v (Guest g)) goes ∙ ap (λ (b : Bool). view_by None b job v (Guest g)) broke in
    let kept : step_contents job v (Guest g) true c ≡ c =
    ap (λ (w : Option Why). contents_by w (breaks job v (Guest g) true) job v (Guest g) c) goes ∙ ap (λ (b : Bool). contents_by None b job v (Guest g) c) broke in
    let ends : List Ended = record { guest = g; outcome = HasFaulted } ∷ [] in
    let made = x.call.made refl in
    let t = at_dest s g Faulted new bytes op in
    happened s (Guest g) Faulted (s.history ++ ends) s.source new (s.reads ++ []) (ended_as v g.0 HasFaulted) x.running x.carried (record {
      fitting = x.fitting;
      goes_on = refl;
      answers = x.steps.answers;
      stepped = stepped;
      rest = record {
        longer = ap (λ (h : List Ended). h ++ ends) shown.history;
        stun = shown.stun;
        phase = shown.phase;
        streams = shown.streams;
        acks = shown.acks;
      };
      of_source = ended-keeps-source job v g.0 HasFaulted s.source (is_source_of s x.running);
      of_dest = ended-keeps-dest job v g.0 HasFaulted new (x.steps.failed refl);
      source_layout = refl;
      dest_layout = ap (λ (told : Told). told.shape) made.told;
      contents = λ both.
          joined-contents t c refl (sym (append-nil s.reads)) (has_source_bytes s both).part ((x.moves both).kept refl).part ∙ sym kept;
      read = [];
      behind = refl;
      more_read = ap (λ (xs : List ℕ). length xs) (append-nil s.reads) ∙ faulted-reads s (record { guest = g; outcome = HasFaulted }) x.running (guest_goes job v g.0 true goes).more refl;
      calls = subst (λ (o : Outside). OneCall o true s t) (calls-at-dest s g x.on_dest) (calls-dest s.dest.shape op op.write true s t made refl refl refl);
    })

-- A guest's operation on the destination, however it was answered.
by-answer : (s : State) (g : GuestId) (a : Turn) (new : Dest) (bytes : List ℕ) → AtDest s g a new bytes (next_operation (job_of s.job) (view s) g.0) →
    Happened s (Guest g) a (at_dest s g a new bytes (next_operation (job_of s.job) (view s) g.0))
by-answer s g (Done n) new bytes x = dest-done s g n new bytes x
by-answer s g Queued new bytes x =
    let job = job_of s.job in
    let v = view s in
    let goes : wait job v (Guest g) false ≡ None = goes-on job v (Guest g) Queued x.steps.answers refl in
    let answers : Queued ≡ guest_answer (next_operation job v g.0) Alone =
    x.steps.answers ∙ ap (λ (w : Option Why). turn_by w false job v (Guest g)) goes ∙ ap (λ (a : Aim). guest_answer (next_operation job v g.0) a) (alone job v g.0 x.on_dest) in
    absurd (cc)
by-answer s g Faulted new bytes x = dest-faulted s g new bytes x
by-answer s g (Waits why) new bytes x = let no : true ≡ false = x.goes_on in absurd (cc)
by-answer s g (Broke cause) new bytes x =
    let job = job_of s.job in
    let no : false ≡ true = ap is_ending x.steps.answers ∙ is-ending (wait job (view s) (Guest g) true) (breaks job (view s) (Guest g) true) job (view s) g in
    absurd (cc)

pub guest-at-dest : (s : State) (g : GuestId) (a : Turn) (new : Dest) (bytes : List ℕ) (op : UnitOp) → next_operation (job_of s.job) (view s) g.0 ≡ op → AtDest s g a new bytes op →
    Happened s (Guest g) a (at_dest s g a new bytes op)
guest-at-dest s g a new bytes op next x =
    subst (λ (o : UnitOp). Happened s (Guest g) a (at_dest s g a new bytes o)) next
    (by-answer s g a new bytes (subst (AtDest s g a new bytes) (sym next) x))

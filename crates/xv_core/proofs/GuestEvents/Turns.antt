-- What was answered to a guest's operation, in the words of the calls that make it.
use Rattle.std.specs.Prelude.{◌≡◌, ◌≤◌, ◌<◌, ℕ, ◌&&◌, not, Bool, true, false, List, length}
use Rattle.std.proofs.Common.{refl, ap, sym, subst, ◌∙◌}
use Rattle.std.proofs.lemmas.Bool.{lt-ltb}
use Rattle.xv_base.specs.declared.event.Event.TheVariants.{Guest}
use Rattle.xv_base.specs.declared.event.Phase.TheVariants.{Running, Stunned, Switched, Cancelled, Failed}
use Rattle.xv_base.specs.declared.unit.GuestId.{GuestId}
use Rattle.xv_device.specs.Operations.{AreRead, operation_call as dest_call}
use Rattle.xv_model.specs.Job.{Job, UnitOp, guest_count}
use Rattle.xv_model.specs.Guest.{Ended}
use Rattle.xv_model.specs.View.{View, Phase, is_running, is_live, is_switched}
use Rattle.xv_model.specs.Wait.{next_operation}
use Rattle.xv_model.specs.Effect.{Turn}
use Rattle.xv_model.specs.Step.{is_flagged}
use Rattle.xv_model.specs.Contents.{Contents}
use Rattle.xv_job.specs.Written.{job_of}
use Rattle.xv_source.specs.Half.{Source}
use Rattle.xv_source.specs.Step.{is_let, Allows, StepsSource, MakesCall, ReadsInto, operation_call}
use Rattle.xv_dest.specs.Half.{Dest, HasDestBytes}
use Rattle.xv_dest.specs.Step.{StepsDest, MovesDest, MakesCall as MakesDestCall, went_out, is_let as is_let_dest, Allows as AllowsDest}
use Rattle.xv_core.specs.Seen.{Seen, view_of}
use Rattle.xv_core.specs.State.{State, seen_of, view, contents_of}
use Rattle.xv_core.specs.Kept.{IsState}
use Rattle.xv_core.specs.Answered.{ended_by, read_by}
use Rattle.xv_core.proofs.Keeping.Joined.{shows, is_source_of, is_dest_of, has_dest_bytes}
use Rattle.xv_core.proofs.GuestEvents.OperationSteps.{Answers}
use Rattle.xv_core.proofs.GuestEvents.OperationAnswers.{guest-answers-at-source, guest-answers-at-dest}

running-not-switched : (p : Phase) → is_running p ≡ true → is_switched p ≡ false
running-not-switched Running on = refl
running-not-switched Stunned on = absurd (cc)
running-not-switched Switched on = absurd (cc)
running-not-switched Cancelled on = absurd (cc)
running-not-switched Failed on = absurd (cc)

history-long : (s : State) → IsState s → length (view s).history ≡ length s.history
history-long s k = ap (λ (h : List Ended). length h) (shows s k.running).history

-- what is asked of a guest's operation, of a migration as contracts see it
pub record Asked (m : Seen) (g : GuestId) (op : UnitOp) : Type 0 where
  pub there : g.0 < guest_count (job_of m.job)
  pub lets : is_let (job_of m.job) (view_of m) (Guest g) ≡ true
  pub next : op ≡ next_operation (job_of m.job) (view_of m) g.0

-- while the migration runs
running-by : (s : State) (g : GuestId) (a : Turn) (new : Source) (bytes : List ℕ) (op : UnitOp) (n : ℕ) → IsState s → n ≡ length s.history → Asked (seen_of s) g op → is_running (view s).phase ≡ true → 64 ≤ length bytes →
    ((job : Job) (v : View) → Allows job v (Guest g) s.source → is_running v.phase ≡ true → next_operation job v g.0 ≡ op → length v.history ≡ n → StepsSource job v (Guest g) a s.source new) →
    MakesCall (operation_call s.source.shape op) a s.source new → ReadsInto op a bytes s.source.told →
    Answers s (Guest g) a (ended_by g a) new s.dest (read_by op a bytes)
running-by s g a new bytes op n k is_length asked running long steps call gives =
    let job = job_of s.job in
    let v = view s in
    guest-answers-at-source s g a new bytes op k (lt-ltb g.0 (guest_count job) asked.there) (running-not-switched v.phase running) (sym asked.next) long
    (steps job v (record { of = is_source_of s k.running; lets = asked.lets }) running (sym asked.next) (history-long s k ∙ sym is_length)) call gives

pub running-answers : (s : State) (m : Seen) (g : GuestId) (a : Turn) (new : Source) (bytes : List ℕ) (op : UnitOp) (n : ℕ) → IsState s → n ≡ length s.history → seen_of s ≡ m → Asked m g op → is_running (view_of m).phase ≡ true → 64 ≤ length bytes →
    ((job : Job) (v : View) → Allows job v (Guest g) s.source → is_running v.phase ≡ true → next_operation job v g.0 ≡ op → length v.history ≡ n → StepsSource job v (Guest g) a s.source new) →
    MakesCall (operation_call s.source.shape op) a s.source new → ReadsInto op a bytes s.source.told →
    Answers s (Guest g) a (ended_by g a) new s.dest (read_by op a bytes)
running-answers s m g a new bytes op n k is_length seen asked running long steps call gives =
    running-by s g a new bytes op n k is_length (subst (λ (n : Seen). Asked n g op) (sym seen) asked) (subst (λ (n : Seen). is_running (view_of n).phase ≡ true) (sym seen) running) long steps call gives

-- once it is over on the source
alone-by : (s : State) (g : GuestId) (a : Turn) (new : Source) (bytes : List ℕ) (op : UnitOp) → IsState s → Asked (seen_of s) g op → is_live (view s).phase ≡ false → is_switched (view s).phase ≡ false → 64 ≤ length bytes →
    ((job : Job) (v : View) (guest : GuestId) → Allows job v (Guest guest) s.source → is_live v.phase ≡ false → is_switched v.phase ≡ false → next_operation job v guest.0 ≡ op → StepsSource job v (Guest guest) a s.source new) →
    MakesCall (operation_call s.source.shape op) a s.source new → ReadsInto op a bytes s.source.told →
    Answers s (Guest g) a (ended_by g a) new s.dest (read_by op a bytes)
alone-by s g a new bytes op k asked over off long steps call gives =
    let job = job_of s.job in
    let v = view s in
    guest-answers-at-source s g a new bytes op k (lt-ltb g.0 (guest_count job) asked.there) off (sym asked.next) long
    (steps job v g (record { of = is_source_of s k.running; lets = asked.lets }) over off (sym asked.next)) call gives

pub alone-answers : (s : State) (m : Seen) (g : GuestId) (a : Turn) (new : Source) (bytes : List ℕ) (op : UnitOp) → IsState s → seen_of s ≡ m → Asked m g op → is_live (view_of m).phase ≡ false → is_switched (view_of m).phase ≡ false → 64 ≤ length bytes →
    ((job : Job) (v : View) (guest : GuestId) → Allows job v (Guest guest) s.source → is_live v.phase ≡ false → is_switched v.phase ≡ false → next_operation job v guest.0 ≡ op → StepsSource job v (Guest guest) a s.source new) →
    MakesCall (operation_call s.source.shape op) a s.source new → ReadsInto op a bytes s.source.told →
    Answers s (Guest g) a (ended_by g a) new s.dest (read_by op a bytes)
alone-answers s m g a new bytes op k seen asked over off long steps call gives =
    alone-by s g a new bytes op k (subst (λ (n : Seen). Asked n g op) (sym seen) asked) (subst (λ (n : Seen). is_live (view_of n).phase ≡ false) (sym seen) over)
    (subst (λ (n : Seen). is_switched (view_of n).phase ≡ false) (sym seen) off) long steps call gives

-- once the destination has the guest
same-let : (end queued due stunned switched : Bool) → (not end && not queued && not due && not stunned) ≡ true → switched ≡ true → (not end && not queued && switched) ≡ true
same-let false false due stunned switched lets on = on
same-let true queued due stunned switched lets on = absurd (cc)
same-let false true due stunned switched lets on = absurd (cc)

dest-by : (s : State) (g : GuestId) (a : Turn) (new : Dest) (bytes : List ℕ) (op : UnitOp) → IsState s → Asked (seen_of s) g op → is_switched (view s).phase ≡ true → 64 ≤ length bytes →
    ((job : Job) (v : View) (guest : GuestId) → AllowsDest job v (Guest guest) s.dest → next_operation job v guest.0 ≡ op → StepsDest job v (Guest guest) a s.dest new) →
    ((job : Job) (v : View) (c : Contents) (guest : GuestId) → AllowsDest job v (Guest guest) s.dest → next_operation job v guest.0 ≡ op → HasDestBytes c s.dest → MovesDest job v c (Guest guest) a new) →
    MakesDestCall (dest_call s.dest.shape op) a s.dest new → (went_out a ≡ true → is_flagged a ≡ false → AreRead op bytes s.dest.told) →
    Answers s (Guest g) a (ended_by g a) s.source new (read_by op a bytes)
dest-by s g a new bytes op k asked on long steps moves call gives =
    let job = job_of s.job in
    let v = view s in
    let lets : is_let_dest job v (Guest g) ≡ true = same-let _ _ _ _ (is_switched v.phase) asked.lets on in
    let allows : AllowsDest job v (Guest g) s.dest = record { of = is_dest_of s k.running; lets = lets } in
    guest-answers-at-dest s g a new bytes op k (lt-ltb g.0 (guest_count job) asked.there) on (sym asked.next) long
    (steps job v g allows (sym asked.next)) (λ both. moves job v (contents_of s) g allows (sym asked.next) (has_dest_bytes s both)) call gives

pub dest-answers : (s : State) (m : Seen) (g : GuestId) (a : Turn) (new : Dest) (bytes : List ℕ) (op : UnitOp) → IsState s → seen_of s ≡ m → Asked m g op → is_switched (view_of m).phase ≡ true → 64 ≤ length bytes →
    ((job : Job) (v : View) (guest : GuestId) → AllowsDest job v (Guest guest) s.dest → next_operation job v guest.0 ≡ op → StepsDest job v (Guest guest) a s.dest new) →
    ((job : Job) (v : View) (c : Contents) (guest : GuestId) → AllowsDest job v (Guest guest) s.dest → next_operation job v guest.0 ≡ op → HasDestBytes c s.dest → MovesDest job v c (Guest guest) a new) →
    MakesDestCall (dest_call s.dest.shape op) a s.dest new → (went_out a ≡ true → is_flagged a ≡ false → AreRead op bytes s.dest.told) →
    Answers s (Guest g) a (ended_by g a) s.source new (read_by op a bytes)
dest-answers s m g a new bytes op k seen asked on long steps moves call gives =
    dest-by s g a new bytes op k (subst (λ (n : Seen). Asked n g op) (sym seen) asked) (subst (λ (n : Seen). is_switched (view_of n).phase ≡ true) (sym seen) on) long steps moves call gives

-- From what a half says of a guest's operation to what was answered.
use Rattle.std.specs.Prelude.{◌≡◌, ◌≤◌, ℕ, Bool, true, false, List, [], ◌++◌, length, get_or, Option, Some, None, is_some, if◌then◌else◌}
use Rattle.std.proofs.Common.{refl, sym, subst}
use Rattle.std.proofs.lemmas.List.{append-nil}
use Rattle.xv_base.specs.declared.answer.Turn.TheVariants.{Done, Queued, Faulted, Wait as Waits, Failed as Broke}
use Rattle.xv_base.specs.declared.answer.Why.{Why}
use Rattle.xv_base.specs.declared.event.Event.TheVariants.{Guest, Release}
use Rattle.xv_base.specs.declared.unit.GuestId.{GuestId}
use Rattle.xv_device.specs.Operations.{AreRead, operation_call as dest_call}
use Rattle.xv_model.specs.Job.{Job, UnitOp}
use Rattle.xv_model.specs.View.{View, Waiting, no_disk, front, is_switched}
use Rattle.xv_model.specs.Wait.{wait, fits, next_operation, next_aim, is_join}
use Rattle.xv_model.specs.Effect.{Turn, note}
use Rattle.xv_model.specs.Step.{turn, turn_by, is_flagged, is_wait}
use Rattle.xv_model.specs.Contents.{front_operation}
use Rattle.xv_job.specs.Written.{job_of}
use Rattle.xv_source.specs.Half.{Source}
use Rattle.xv_source.specs.Step.{StepsSource, MakesCall, ReadsInto, operation_call}
use Rattle.xv_dest.specs.Half.{Dest}
use Rattle.xv_dest.specs.Step.{StepsDest, MovesDest, MakesCall as MakesDestCall, went_out}
use Rattle.xv_core.specs.State.{State, view, both_tell, contents_of}
use Rattle.xv_core.specs.Happening.{Happened}
use Rattle.xv_core.specs.Kept.{IsState}
use Rattle.xv_core.specs.Answered.{ended_by, read_by}
use Rattle.xv_core.proofs.GuestEvents.Operating.{operated}
use Rattle.xv_core.proofs.GuestEvents.OperationSteps.{Stands, Answers}
use Rattle.xv_core.proofs.GuestEvents.AtSource.{guest-at-source}
use Rattle.xv_core.proofs.GuestEvents.AtDest.{guest-at-dest}
use Rattle.xv_core.proofs.GuestEvents.ReleaseAtSource.{release-at-source}

-- a wait that was answered is the machine's
unless-joined : (j : Bool) (a b : ℕ) (why : Why) → Waits why ≡ (if j then Queued else note a b) → ⊥
unless-joined true a b why is = cc
unless-joined false a b why is = cc

guest-waits-so : (w : Option Why) (job : Job) (v : View) (g : GuestId) (why : Why) → Waits why ≡ turn_by w false job v (Guest g) → w ≡ Some why
guest-waits-so (Some y) job v g why is = cc
guest-waits-so None job v g why is = absurd (unless-joined (is_join (next_aim job v g.0)) (if is_some (next_operation job v g.0).write then 0 else (next_operation job v g.0).len) 0 why is)

release-waits-so : (w : Option Why) (job : Job) (v : View) (d : ℕ) (why : Why) → Waits why ≡ turn_by w false job v (Release d) → w ≡ Some why
release-waits-so (Some y) job v d why is = cc
release-waits-so None job v d why is = absurd (cc)

guest-stands : (s : State) (g : GuestId) (a : Turn) (source : Source) (dest : Dest) (op : UnitOp) (bytes : List ℕ) → a ≡ turn (job_of s.job) (view s) (Guest g) (is_flagged a) → source ≡ s.source → dest ≡ s.dest → is_wait a ≡ true →
    Stands s (Guest g) a (ended_by g a) source dest (read_by op a bytes)
guest-stands s g (Waits why) source dest op bytes answers source_is dest_is waits = record {
  why = why;
  answer_is = refl;
  waits = guest-waits-so (wait (job_of s.job) (view s) (Guest g) false) (job_of s.job) (view s) g why answers;
  none_ended = refl;
  none_read = refl;
  source_is = source_is;
  dest_is = dest_is;
}
guest-stands s g (Done n) source dest op bytes answers source_is dest_is waits = absurd (cc)
guest-stands s g Queued source dest op bytes answers source_is dest_is waits = absurd (cc)
guest-stands s g Faulted source dest op bytes answers source_is dest_is waits = absurd (cc)
guest-stands s g (Broke cause) source dest op bytes answers source_is dest_is waits = absurd (cc)

release-stands : (s : State) (d : ℕ) (g : GuestId) (a : Turn) (source : Source) → a ≡ turn (job_of s.job) (view s) (Release d) (is_flagged a) → source ≡ s.source → is_wait a ≡ true →
    Stands s (Release d) a (ended_by g a) source s.dest []
release-stands s d g (Waits why) source answers source_is waits = record {
  why = why;
  answer_is = refl;
  waits = release-waits-so (wait (job_of s.job) (view s) (Release d) false) (job_of s.job) (view s) d why answers;
  none_ended = refl;
  none_read = refl;
  source_is = source_is;
  dest_is = refl;
}
release-stands s d g (Done n) source answers source_is waits = absurd (cc)
release-stands s d g Queued source answers source_is waits = absurd (cc)
release-stands s d g Faulted source answers source_is waits = absurd (cc)
release-stands s d g (Broke cause) source answers source_is waits = absurd (cc)

-- A guest's operation on the source.
pub guest-answers-at-source : (s : State) (g : GuestId) (a : Turn) (new : Source) (bytes : List ℕ) (op : UnitOp) → IsState s → fits (job_of s.job) (Guest g) ≡ true → is_switched (view s).phase ≡ false → next_operation (job_of s.job) (view s) g.0 ≡ op → 64 ≤ length bytes →
    StepsSource (job_of s.job) (view s) (Guest g) a s.source new → MakesCall (operation_call s.source.shape op) a s.source new → ReadsInto op a bytes s.source.told →
    Answers s (Guest g) a (ended_by g a) new s.dest (read_by op a bytes)
guest-answers-at-source s g a new bytes op k fitting off next long steps call gives = record {
  happens = λ goes. guest-at-source s g a new bytes op next (record {
    running = k.running;
    carried = k.carried;
    fitting = fitting;
    on_source = off;
    goes_on = goes;
    steps = steps;
    call = call;
    gives = gives;
    long = long;
  });
  stands = λ waits. guest-stands s g a new s.dest op bytes steps.answers (steps.waits waits) refl waits;
}

-- A guest's operation on the destination.
pub guest-answers-at-dest : (s : State) (g : GuestId) (a : Turn) (new : Dest) (bytes : List ℕ) (op : UnitOp) → IsState s → fits (job_of s.job) (Guest g) ≡ true → is_switched (view s).phase ≡ true → next_operation (job_of s.job) (view s) g.0 ≡ op → 64 ≤ length bytes →
    StepsDest (job_of s.job) (view s) (Guest g) a s.dest new → (both_tell s ≡ true → MovesDest (job_of s.job) (view s) (contents_of s) (Guest g) a new) → MakesDestCall (dest_call s.dest.shape op) a s.dest new →
    (went_out a ≡ true → is_flagged a ≡ false → AreRead op bytes s.dest.told) →
    Answers s (Guest g) a (ended_by g a) s.source new (read_by op a bytes)
guest-answers-at-dest s g a new bytes op k fitting on next long steps moves call gives = record {
  happens = λ goes. guest-at-dest s g a new bytes op next (record {
    running = k.running;
    carried = k.carried;
    fitting = fitting;
    on_dest = on;
    goes_on = goes;
    steps = steps;
    moves = moves;
    call = call;
    gives = gives;
    long = long;
  });
  stands = λ waits. guest-stands s g a s.source new op bytes steps.answers refl (steps.waits waits) waits;
}

-- The write that waits first for a disk.
pub release-answers : (s : State) (d : ℕ) (a : Turn) (new : Source) (op : UnitOp) (w : Waiting) → IsState s → fits (job_of s.job) (Release d) ≡ true → front (get_or s.source.disks d no_disk) ≡ w → front_operation (job_of s.job) (view s) d ≡ op → is_some op.write ≡ true →
    StepsSource (job_of s.job) (view s) (Release d) a s.source new → MakesCall (operation_call s.source.shape op) a s.source new →
    Answers s (Release d) a (ended_by w.guest a) new s.dest []
release-answers s d a new op w k fitting first next writes steps call = record {
  happens = λ goes.
      subst (λ (xs : List ℕ). Happened s (Release d) a (operated s (Release d) a (s.history ++ ended_by w.guest a) new s.dest xs)) (sym (append-nil s.reads))
      (release-at-source s d a new op w (record {
        running = k.running;
        carried = k.carried;
        fitting = fitting;
        goes_on = goes;
        first = first;
        next = next;
        writes = writes;
        steps = steps;
        call = call;
      }));
  stands = λ waits. release-stands s d w.guest a new steps.answers (steps.waits waits) waits;
}

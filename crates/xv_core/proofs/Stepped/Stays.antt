-- An event that happened to the parts of a migration leaves all that they keep, and is a step as contracts see it.
use Rattle.std.specs.Prelude.{◌≡◌, ℕ}
use Rattle.std.proofs.Common.{sym, ap, subst, ◌∙◌}
use Rattle.xv_base.specs.Units.{Shape}
use Rattle.xv_frame.specs.Frame.{Each}
use Rattle.xv_streams.specs.Carried.{IsCarried}
use Rattle.xv_model.specs.Job.{Job, unit_count}
use Rattle.xv_model.specs.Wait.{Event}
use Rattle.xv_model.specs.Effect.{Turn}
use Rattle.xv_model.specs.Step.{is_flagged}
use Rattle.xv_model.specs.Outside.{Outside, outside}
use Rattle.xv_job.specs.Written.{Written, job_of}
use Rattle.xv_core.specs.State.{State, IsCarriedOver, ArePartsOf, view, on_source, on_dest}
use Rattle.xv_core.specs.Happening.{Happened}
use Rattle.xv_core.specs.Plans.{AllCarried}
use Rattle.xv_core.specs.Kept.{IsState}
use Rattle.xv_core.proofs.Keeping.Keeps.{keeps}
use Rattle.xv_core.proofs.Counting.Fit.{counts-fit}
use Rattle.xv_core.proofs.Counting.Faults.{flags-are-caused}
use Rattle.xv_core.proofs.Plans.Pieces.{pieces-stay}
use Rattle.xv_core.proofs.Plans.Follow.{follows-plans}
use Rattle.xv_core.proofs.Stepped.Numbered.{source-long, dest-long}

pub all-carried : (job : Job) (s : State) → ArePartsOf job s.source s.dest s.streams s.back → IsCarriedOver s.streams s.back → AllCarried job s
all-carried job s parts carried = record {
  lanes =
      subst (λ (shape : Shape). Each (IsCarried shape job.format) s.streams.lanes) parts.streams_shape
      (subst (λ (format : ℕ). Each (IsCarried s.streams.shape format) s.streams.lanes) parts.streams_format carried.streams);
  back = carried.back;
}

numbers : (s t : State) (e : Event) (a : Turn) → Happened s e a t → (before later : ℕ) → later ≡ before → before ≡ unit_count (job_of s.job) → later ≡ unit_count (job_of t.job)
numbers s t e a h before later same is = same ∙ is ∙ ap (λ (w : Written). unit_count (job_of w)) (sym h.job)

pub stays : (s t : State) (e : Event) (a : Turn) → IsState s → Happened s e a t → IsState t
stays s t e a k h =
    let job = job_of s.job in
    let before = all-carried job s k.running.parts k.carried in
    let later = all-carried job t h.parts h.carried in
    let o : Outside = outside job (view s) e in
    record {
      running = keeps s t e a k.running h;
      carried = h.carried;
      source_numbers = numbers s t e a h _ _ (source-long o (is_flagged a) (on_source s.source) (on_source t.source) h.calls.source) k.source_numbers;
      dest_numbers = numbers s t e a h _ _ (dest-long o (is_flagged a) (on_dest s.dest) (on_dest t.dest) h.calls.dest) k.dest_numbers;
      counts = counts-fit s t e a k.running h k.counts;
      caused = flags-are-caused s t e a k.running h k.caused;
      pieces = pieces-stay s t e a k.running h before later k.pieces;
      plans = follows-plans s t e a h k.running before later k.pieces k.plans;
    }

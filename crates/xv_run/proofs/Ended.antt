-- What is left of a job that ran to its end.
use Rattle.std.proofs.Common.{◌≡◌, ℕ, Bool, true, false, List, [], subst, sym, ap, ◌∙◌, refl}
use Rattle.std.specs.Prelude.{◌+◌, if◌then◌else◌, length}
use Rattle.std.proofs.Common.{arith}
use Rattle.xv_base.specs.declared.event.Phase.{Phase}
use Rattle.xv_base.specs.declared.event.Phase.TheVariants.{Running, Stunned, Switched, Cancelled, Failed}
use Rattle.xv_base.specs.declared.answer.Entry.{Entry}
use Rattle.xv_model.specs.View.{is_switched}
use Rattle.xv_model.specs.Wait.{has_cancel}
use Rattle.xv_model.specs.Step.{is_faithful}
use Rattle.xv_model.specs.Journal.{has_failure, is_cancelled}
use Rattle.xv_model.specs.Work.{is_finished}
use Rattle.xv_model.proofs.Journal.Ends.{finished-switched, finished-cancelled, no_faults-no_flag, no_flag-no_failure}
use Rattle.xv_job.specs.Written.{Written, job_of}
use Rattle.xv_core.specs.Seen.{Seen, view_of}
use Rattle.xv_core.specs.Keeping.{IsKept}
use Rattle.xv_core.specs.Origin.{HasOrigin}
use Rattle.xv_parts.specs.Memory.{IsInMemory, begun_in_memory}
use Rattle.xv_parts.proofs.Planned.{faithful}
use Rattle.xv_parts.proofs.Holding.{source-writes, dest-writes}
use Rattle.xv_top.proofs.Agreeing.{dest-guests}
use Rattle.xv_report.specs.Workers.{Tally}
use Rattle.xv_run.specs.Run.{HasRunOut, HasEnded, phase_asked}
use Rattle.xv_run.specs.Numbers.{tally, MadeAll}
use Rattle.xv_run.proofs.Sums.{made-all}

switched-is : (p : Phase) → is_switched p ≡ true → p ≡ Switched
switched-is Running is = absurd (cc)
switched-is Stunned is = absurd (cc)
switched-is Switched is = refl
switched-is Cancelled is = absurd (cc)
switched-is Failed is = absurd (cc)

cancelled-is : (p : Phase) → is_cancelled p ≡ true → p ≡ Cancelled
cancelled-is Running is = absurd (cc)
cancelled-is Stunned is = absurd (cc)
cancelled-is Switched is = absurd (cc)
cancelled-is Cancelled is = refl
cancelled-is Failed is = absurd (cc)

asked-by : (b : Bool) (p : Phase) → (b ≡ false → is_switched p ≡ true) → (b ≡ true → is_cancelled p ≡ true) → p ≡ (if b then Cancelled else Switched)
asked-by true p off on = cancelled-is p (on refl)
asked-by false p off on = switched-is p (off refl)

as-asked : (m : Seen) → IsInMemory m → is_finished (job_of m.job) (view_of m) ≡ true → m.job.faults ≡ [] → (view_of m).phase ≡ phase_asked (job_of m.job)
as-asked m inside done no_faults =
    let job = job_of m.job in
    let kept = inside.kept in
    let well : has_failure m.journal ≡ false = no_flag-no_failure m.journal (no_faults-no_flag job m.journal no_faults (faithful m inside)) in
    asked-by (has_cancel job) (view_of m).phase
    (λ none. finished-switched job m.journal kept.good kept.fitting kept.is_run well none done)
    (λ some. finished-cancelled job m.journal kept.good kept.fitting kept.is_run well some done)

pub has-ended : (w : Written) (m : Seen) (finish : ℕ) → HasRunOut w m finish → HasEnded w m finish
has-ended w m finish out = record {
  of_job = out.of_job;
  kept = out.in_memory.kept;
  faithful = subst (λ (x : Written). is_faithful (job_of x) m.journal ≡ true) out.of_job (faithful m out.in_memory);
  finished = out.finished;
  within = out.within;
  all_made = subst (λ (x : Written). MadeAll (tally (job_of x) m.journal finish) m.journal) out.of_job (made-all m finish out.in_memory.kept out.within);
  asked = subst (λ (x : Written). x.faults ≡ [] → (view_of m).phase ≡ phase_asked (job_of x)) out.of_job (as-asked m out.in_memory out.finished);
  counts = record { source = λ unit there. source-writes m out.in_memory unit; dest = λ unit there. dest-writes m out.in_memory unit };
  hands_over = λ over. record { switched = over; holds = dest-guests m out.in_memory (ap is_switched over) };
}

-- a migration that comes from one that began in memory, and is finished
pub has-run_out : (start closed m : Seen) (finish : ℕ) → start ≡ begun_in_memory start.job → HasOrigin start closed → m.job ≡ closed.job → ((first : Seen) → HasOrigin first closed → HasOrigin first m) → IsKept m
    → is_finished (job_of m.job) (view_of m) ≡ true → length m.journal ≡ length closed.journal + finish → HasRunOut start.job m finish
has-run_out start closed m finish begun came same origin kept done grew =
    let of_job : m.job ≡ start.job = same ∙ came.rises.same_job in
    let first : start ≡ begun_in_memory m.job = begun ∙ ap begun_in_memory (sym of_job) in
    record {
      of_job = of_job;
      in_memory = record { kept = kept; origin = subst (λ (s : Seen). HasOrigin s m) first (origin start came) };
      finished = done;
      within = omega (arith, grew);
    }

-- the same with the numbers of its workers
pub tally-told : (m : Seen) (w : Written) (journal : List Entry) (finish : ℕ) (counts : Tally) → w ≡ m.job → journal ≡ m.journal → counts ≡ tally (job_of w) journal finish → counts ≡ tally (job_of m.job) m.journal finish
tally-told m w journal finish counts of_job told counted =
    counted ∙ ap (λ (x : Written). tally (job_of x) journal finish) of_job ∙ ap (λ (es : List Entry). tally (job_of m.job) es finish) told

pub ended-of : (w : Written) (start m : Seen) (finish : ℕ) (counts : Tally) → start ≡ begun_in_memory w → HasRunOut start.job m finish → counts ≡ tally (job_of m.job) m.journal finish → HasEnded w m counts.finish
ended-of w start m finish counts begun out counted =
    subst (λ (n : ℕ). HasEnded w m n) (sym (ap (λ (t : Tally). t.finish) counted))
    (has-ended w m finish (subst (λ (x : Written). HasRunOut x m finish) (ap (λ (s : Seen). s.job) begun) out))

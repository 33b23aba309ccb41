-- What `run` reads, writes and leaves: a job that threads ran, to whatever end.
use Rattle.std.specs.Prelude.{◌≡◌, ◌≤◌, ◌⊎◌, ℕ, true, List, [], ◌++◌, length, Option, Some, IfSome, if◌then◌else◌}
use Rattle.xv_io.specs.Io.{TookMore, TookFront}
use Rattle.xv_base.specs.declared.event.Phase.{Phase}
use Rattle.xv_base.specs.declared.event.Phase.TheVariants.{Switched, Cancelled, Failed as FailedPhase}
use Rattle.xv_base.specs.declared.status.Status.{Status}
use Rattle.xv_base.specs.declared.status.Status.TheVariants.{Fine, Failed, Cancelled as CancelledStatus}
use Rattle.xv_base.specs.declared.event.Totals.{Totals}
use Rattle.xv_model.specs.Job.{Job}
use Rattle.xv_model.specs.Step.{Entry, run, is_faithful}
use Rattle.xv_model.specs.Wait.{has_cancel}
use Rattle.xv_model.specs.Work.{is_finished}
use Rattle.xv_model.specs.Report.{totals}
use Rattle.xv_report.specs.Texts.{report_text}
use Rattle.xv_report.specs.Json.{report_json}
use Rattle.xv_report.specs.Workers.{Tally}
use Rattle.xv_job.specs.Written.{Written, job_of}
use Rattle.xv_core.specs.Seen.{Seen, view_of}
use Rattle.xv_core.specs.Keeping.{IsKept}
use Rattle.xv_parts.specs.Memory.{IsInMemory}
use Rattle.xv_top.specs.Replay.{image_of}
use Rattle.xv_top.specs.Top.{CountsWrites}
use Rattle.xv_top.specs.Driven.{HasHandedOver}
use Rattle.xv_top.specs.Outcome.{Outcome, ReadsAll, ReadsQuietly, WritesAll, WritesFront, WritesQuietly}
use Rattle.xv_top.specs.declared.command.Form.{Form}
use Rattle.xv_top.specs.declared.command.Form.TheVariants.{Rows, Json}
use Rattle.xv_top.specs.declared.program.Left.TheVariants.{First}
use Rattle.xv_run.specs.Journal.{journal_text}
use Rattle.xv_run.specs.Numbers.{tally, MadeAll}
use Rattle.xv_run.specs.Refused.{IsJob}

-- the report in a form, with the workers
abbrev pub counted_text : Form → Totals → Tally → List ℕ
counted_text Rows t counts = report_text t (Some counts)
counted_text Json t counts = report_json t (Some counts)

-- The report of a journal whose last entries, so many, were made after the workers. This is only a name.
unfoldable pub report_of : Form → Job → List Entry → ℕ → List ℕ
report_of form job journal finish =
    counted_text form (totals job (run job journal) (length journal)) (tally job journal finish)

-- the output: the lines of the journal, its report and its image
abbrev pub result_text : Form → Job → List Entry → ℕ → List ℕ
result_text form job journal finish = report_of form job journal finish ++ image_of job journal

abbrev pub run_text : Form → Job → List Entry → ℕ → List ℕ
run_text form job journal finish = journal_text job journal ++ result_text form job journal finish

-- the phase that a job asks to end in
abbrev pub phase_asked : Job → Phase
phase_asked job = if has_cancel job then Cancelled else Switched

-- a migration in memory of this job is finished, and its journal has at least so many entries
pub record HasRunOut (written : Written) (m : Seen) (finish : ℕ) : Type 0 where
  pub of_job : m.job ≡ written
  pub in_memory : IsInMemory m
  pub finished : is_finished (job_of m.job) (view_of m) ≡ true
  pub within : finish ≤ length m.journal

-- The job ran to its end, and this is what was left: a run of it, in which exactly those calls failed that its faults name. Its last
-- entries, so many, count as made after the workers, and each other entry is one worker's. Without planned faults it ends as was asked.
-- Where it has switched over, the destination holds what the unmigrated guest leaves.
pub record HasEnded (written : Written) (m : Seen) (finish : ℕ) : Type 0 where
  pub of_job : m.job ≡ written
  pub kept : IsKept m
  pub faithful : is_faithful (job_of written) m.journal ≡ true
  pub finished : is_finished (job_of m.job) (view_of m) ≡ true
  pub within : finish ≤ length m.journal
  pub all_made : MadeAll (tally (job_of written) m.journal finish) m.journal
  pub asked : written.faults ≡ [] → (view_of m).phase ≡ phase_asked (job_of written)
  pub counts : CountsWrites m
  pub hands_over : (view_of m).phase ≡ Switched → HasHandedOver m

-- a status says the phase in which a run ended
abbrev pub EndsAs : Phase → Status → Type 0
EndsAs phase status = ((phase ≡ Switched) × (status ≡ Fine)) ⊎ ((phase ≡ FailedPhase) × (status ≡ Failed)) ⊎ ((phase ≡ Cancelled) × (status ≡ CancelledStatus))

-- the input is a job, which the migration that is left has run to this phase, and its output was written
pub record IsRun (form : Form) (phase : Phase) (o : Outcome) : Type 0 where
  pub written : Written
  pub migration : Seen
  pub finish : ℕ
  pub read : ReadsAll o.input
  pub input : IfSome o.input.before (λ xs. IsJob xs written)
  pub ended : HasEnded written migration finish
  pub phase_is : (view_of migration).phase ≡ phase
  pub output : WritesAll o.output (run_text form (job_of written) migration.journal finish)
  pub is_left : o.left ≡ First migration

-- the input is a job, and the output failed at what a run of it writes
pub record IsRunCut (form : Form) (o : Outcome) : Type 0 where
  pub written : Written
  pub migration : Seen
  pub finish : ℕ
  pub input : IfSome o.input.before (λ xs. IsJob xs written)
  pub ended : HasEnded written migration finish
  pub output : WritesFront o.output (run_text form (job_of written) migration.journal finish)

-- there was no memory for the report: the lines of the journal of a run were written, and nothing behind them
pub record IsRunShort (form : Form) (o : Outcome) : Type 0 where
  pub json : form ≡ Json
  pub written : Written
  pub migration : Seen
  pub finish : ℕ
  pub input : IfSome o.input.before (λ xs. IsJob xs written)
  pub ended : HasEnded written migration finish
  pub output : TookMore o.output.before o.output.after (journal_text (job_of written) migration.journal)
  pub quiet_input : ReadsQuietly o.input
  pub quiet_output : WritesQuietly o.output

-- ---- for private clauses: a run of a job, by what an output took of it

-- all that is written of it was taken
pub record IsRunTaken (form : Form) (written : Written) (old new : Option (List ℕ)) (m : Seen) : Type 0 where
  pub finish : ℕ
  pub ended : HasEnded written m finish
  pub taken : TookMore old new (run_text form (job_of written) m.journal finish)

-- a front of that was taken
pub record IsRunBegun (form : Form) (written : Written) (old new : Option (List ℕ)) : Type 0 where
  pub migration : Seen
  pub finish : ℕ
  pub ended : HasEnded written migration finish
  pub taken : TookFront old new (run_text form (job_of written) migration.journal finish)

-- the lines of its journal were taken, for want of memory for the line of JSON nothing behind them
pub record IsRunListed (form : Form) (written : Written) (old new : Option (List ℕ)) : Type 0 where
  pub json : form ≡ Json
  pub migration : Seen
  pub finish : ℕ
  pub ended : HasEnded written migration finish
  pub taken : TookMore old new (journal_text (job_of written) migration.journal)

-- What `run` promises of a call with its words. The fields are those of the other commands, and a status for each end of a run.
use Rattle.std.specs.Prelude.{◌≡◌, ◌≢◌, ◌⊎◌, ℕ, List, Option, IfSome, ◌++◌}
use Rattle.xv_io.specs.Io.{TookMore}
use Rattle.xv_base.specs.declared.event.Phase.TheVariants.{Switched as SwitchedPhase, Cancelled as CancelledPhase, Failed as FailedPhase}
use Rattle.xv_base.specs.declared.status.Status.{Status}
use Rattle.xv_base.specs.declared.status.Status.TheVariants.{Fine, BadWords, BadInput, ReadFault, WriteFault, NoMemory, Failed, Cancelled, FileFault}
use Rattle.xv_job.specs.Written.{job_of}
use Rattle.xv_job.specs.JobText.{job_text}
use Rattle.xv_report.specs.Texts.{image_text}
use Rattle.xv_core.specs.Seen.{Seen}
use Rattle.xv_core.specs.Keeping.{told_contents}
use Rattle.xv_top.specs.Outcome.{Outcome, ReadsQuietly, ReadsWithin}
use Rattle.xv_top.specs.Promises.{IsRefusedBy, IsRefusalCut, IsReadFailed, IsOutOfMemory, IsGoodInput, HasNotFailed}
use Rattle.xv_top.specs.declared.command.Form.{Form}
use Rattle.xv_top.specs.declared.program.Left.TheVariants.{Nothing}
use Rattle.xv_run.specs.Journal.{journal_text}
use Rattle.xv_run.specs.Refused.{run_fault}
use Rattle.xv_run.specs.Run.{IsRun, IsRunCut, IsRunShort}

-- all was written, of a run to one of its ends
abbrev pub IsOver : Status → Type 0
IsOver status = (status ≡ Fine) ⊎ (status ≡ Failed) ⊎ (status ≡ Cancelled)

pub record RunPromise (form : Form) (o : Outcome) : Type 0 where
  pub reads : ReadsWithin o.input
  pub fine : o.status ≡ Fine → IsRun form SwitchedPhase o
  pub failed : o.status ≡ Failed → IsRun form FailedPhase o
  pub cancelled : o.status ≡ Cancelled → IsRun form CancelledPhase o
  pub bad_input : o.status ≡ BadInput → IsRefusedBy run_fault o
  pub read_fault : o.status ≡ ReadFault → IsReadFailed o
  pub write_fault : o.status ≡ WriteFault → ReadsQuietly o.input × (IsRefusalCut run_fault o ⊎ IsRunCut form o)
  pub no_memory : o.status ≡ NoMemory → IsOutOfMemory o ⊎ IsRunShort form o
  pub complete : IsGoodInput run_fault o.input → HasNotFailed o → IsOver o.status ⊎ (o.status ≡ NoMemory)
  pub left : (IsOver o.status → ⊥) → o.left ≡ Nothing
  pub no_other : (o.status ≢ BadWords) × (o.status ≢ FileFault)

-- The input is the text of the migration's job. Its journal's lines were taken, each entry with its answer and with what the
-- unmigrated guest reads there, then a report, then the image of what the devices hold.
pub record PrintsRun (bytes old new : Option (List ℕ)) (m : Seen) : Type 0 where
  pub input : IfSome bytes (λ xs. xs ≡ job_text m.job)
  pub report : List ℕ
  pub output : TookMore old new (journal_text (job_of m.job) m.journal ++ (report ++ image_text (told_contents m.source) (told_contents m.dest)))

-- What `replay` reads, writes and leaves.
use Rattle.std.specs.Prelude.{◌≡◌, ◌<◌, ℕ, ◌+◌, ◌-◌, true, List, length, Option, Some, None, IfSome, ⊤}
use Rattle.xv_io.specs.Io.{GaveAtLeast, TookMore}
use Rattle.xv_base.specs.declared.text.LineFault.{LineFault}
use Rattle.xv_text.specs.declared.limits.TheConstants.{LIMIT_OF_INPUT}
use Rattle.xv_base.specs.declared.text.LineWhy.TheVariants.{Limit}
use Rattle.xv_device.specs.Device.{write_count}
use Rattle.xv_model.specs.Job.{unit_count}
use Rattle.xv_model.specs.Guest.{writes}
use Rattle.xv_model.specs.View.{number}
use Rattle.xv_model.specs.Step.{play, is_faithful}
use Rattle.xv_model.specs.Report.{source_length}
use Rattle.xv_job.specs.Written.{Written, job_of, IsGoodWritten}
use Rattle.xv_script.specs.Lines.{events_of}
use Rattle.xv_script.specs.Script.{IsScriptOf}
use Rattle.xv_script.specs.declared.line.Line.{Line}
use Rattle.xv_core.specs.Seen.{Seen, view_of}
use Rattle.xv_core.specs.Keeping.{IsKept}
use Rattle.xv_parts.specs.Memory.{begun_in_memory}
use Rattle.xv_top.specs.Replay.{input_text, transcript, output_text}
use Rattle.xv_top.specs.Refused.{input_limit, input_fault}
use Rattle.xv_top.specs.Playing.{AreAnswered}
use Rattle.xv_top.specs.Outcome.{Outcome, ReadsAll, ReadsQuietly, WritesAll, WritesFront, WritesQuietly}
use Rattle.xv_top.specs.declared.command.Form.{Form}
use Rattle.xv_top.specs.declared.command.Form.TheVariants.{Json}
use Rattle.xv_top.specs.declared.program.Left.TheVariants.{First}
use Rattle.xv_top.specs.declared.input.InputError.{InputError}
use Rattle.xv_top.specs.declared.input.InputError.TheVariants.{Refused, ReadFault, NoMemory}

-- these bytes are refused nowhere, and are the text of this job and this script
pub record IsInput (bytes : List ℕ) (written : Written) (lines : List Line) : Type 0 where
  pub no_fault : input_fault bytes ≡ None
  pub good : IsGoodWritten written
  pub script : IsScriptOf (job_of written) lines
  pub text : bytes ≡ input_text written lines

-- more bytes than the limit were read, and that is the fault
pub record IsTooLong (fault : LineFault) (old new : Option (List ℕ)) : Type 0 where
  pub is : fault ≡ record { line = 0; why = Limit LIMIT_OF_INPUT }
  pub past : GaveAtLeast (input_limit + 1) old new

-- these bytes are refused so
abbrev pub IsRefused : List ℕ → LineFault → Type 0
IsRefused bytes fault = input_fault bytes ≡ Some fault

-- Each side's number of writes of a unit: the source counts those of the history before the switchover, and the
-- destination the versions that were written there and those of the history after the switchover.
pub record CountsWrites (m : Seen) : Type 0 where
  pub source : (unit : ℕ) → unit < unit_count (job_of m.job) → write_count m.source.told.writes unit ≡ writes (job_of m.job) (view_of m).history unit (source_length (view_of m))
  pub dest : (unit : ℕ) → unit < unit_count (job_of m.job) → write_count m.dest.told.writes unit ≡ number (view_of m).hold.applied unit + (writes (job_of m.job) (view_of m).history unit (length (view_of m).history) - writes (job_of m.job) (view_of m).history unit (source_length (view_of m)))

-- The migration in memory that a job asks for began, its script's lines were answered one after another with the transcript,
-- and this is what they left: of that job and the script's journal, in which exactly those calls failed that the job's faults
-- name. What every migration keeps held at the beginning, after every line and in the end, and both sides count the guest's
-- writes.
pub record HasRun (written : Written) (lines : List Line) (m : Seen) : Type 0 where
  pub begun : IsKept (begun_in_memory written)
  pub played : AreAnswered (begun_in_memory written) lines m (transcript (job_of written) lines)
  pub of_job : m.job ≡ written
  pub journal : m.journal ≡ play (job_of written) (events_of lines)
  pub faithful : is_faithful (job_of written) m.journal ≡ true
  pub kept : IsKept m
  pub counts : CountsWrites m

-- the input is a job and a script, the migration that is left has run them, and their output was written
pub record IsReplayed (form : Form) (o : Outcome) : Type 0 where
  pub written : Written
  pub lines : List Line
  pub migration : Seen
  pub read : ReadsAll o.input
  pub input : IfSome o.input.before (λ xs. IsInput xs written lines)
  pub output : WritesAll o.output (output_text form (job_of written) lines)
  pub has_run : HasRun written lines migration
  pub is_left : o.left ≡ First migration

-- the input is a job and a script, and the output failed at their output
pub record IsReplayCut (form : Form) (o : Outcome) : Type 0 where
  pub written : Written
  pub lines : List Line
  pub input : IfSome o.input.before (λ xs. IsInput xs written lines)
  pub output : WritesFront o.output (output_text form (job_of written) lines)

-- there was no memory for the line of JSON: the transcript was written, and nothing behind it
pub record IsReplayShort (form : Form) (o : Outcome) : Type 0 where
  pub json : form ≡ Json
  pub written : Written
  pub lines : List Line
  pub input : IfSome o.input.before (λ xs. IsInput xs written lines)
  pub output : TookMore o.output.before o.output.after (transcript (job_of written) lines)
  pub quiet_input : ReadsQuietly o.input
  pub quiet_output : WritesQuietly o.output

-- what a refused input is refused for, and whether a read failed
abbrev pub RefusedSo : InputError → (LineFault → Type 0) → Type 0
RefusedSo (Refused fault) P = P fault
RefusedSo ReadFault P = ⊤
RefusedSo NoMemory P = ⊤

abbrev pub IsReadFault : InputError → Type 0
IsReadFault (Refused fault) = ⊥
IsReadFault ReadFault = ⊤
IsReadFault NoMemory = ⊥

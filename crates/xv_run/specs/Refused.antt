-- How an input is refused: by its length, or by its first faulty line; the line behind a job is one.
use Rattle.std.specs.Prelude.{◌≡◌, ℕ, true, List, Option, Some, None}
use Rattle.xv_base.specs.declared.text.LineFault.{LineFault}
use Rattle.xv_text.specs.Lines.{lines_of, has_rest}
use Rattle.xv_text.specs.Reading.{first_fault}
use Rattle.xv_job.specs.Draft.{first_draft, job_reader}
use Rattle.xv_job.specs.JobText.{job_text}
use Rattle.xv_job.specs.Written.{Written, IsGoodWritten}
use Rattle.xv_top.specs.Refused.{too_long_or}

-- a job, and nothing behind it
abbrev pub run_fault : List ℕ → Option LineFault
run_fault bytes = too_long_or bytes (first_fault job_reader true first_draft 1 (lines_of bytes) (has_rest bytes))

abbrev pub IsRefused : List ℕ → LineFault → Type 0
IsRefused bytes fault = run_fault bytes ≡ Some fault

-- these bytes are refused nowhere, and are the text of this job
pub record IsJob (bytes : List ℕ) (written : Written) : Type 0 where
  pub no_fault : run_fault bytes ≡ None
  pub good : IsGoodWritten written
  pub text : bytes ≡ job_text written

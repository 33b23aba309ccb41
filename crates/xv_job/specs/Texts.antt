-- A text that begins with a job: how it is refused, and what it says.
use Rattle.std.specs.Prelude.{◌≡◌, ℕ, false, List, ◌++◌, Option, None, Result, Ok, Err}
use Rattle.xv_base.specs.declared.text.LineFault.{LineFault}
use Rattle.xv_base.specs.declared.text.TextError.{TextError}
use Rattle.xv_base.specs.declared.text.TextError.TheVariants.{Fault, NoMemory}
use Rattle.xv_text.specs.Lines.{lines_of, has_rest}
use Rattle.xv_text.specs.Reading.{first_fault, last_state}
use Rattle.xv_job.specs.Draft.{first_draft, job_reader}
use Rattle.xv_job.specs.JobText.{job_text}
use Rattle.xv_job.specs.Written.{Written, IsGoodWritten}

-- the first fault of the job at the front of a text, and the job that its lines say
abbrev pub text_fault : List ℕ → Option LineFault
text_fault text = first_fault job_reader false first_draft 1 (lines_of text) (has_rest text)

abbrev pub job_said : List ℕ → Written
job_said text = (last_state job_reader first_draft (lines_of text)).job

-- P of what is read: it is read without a fault, and want of memory is free
abbrev pub UnlessNoMemory : {A : Type 0} → Result A TextError → (A → Type 0) → Type 0
UnlessNoMemory (Ok found) P = P found
UnlessNoMemory (Err NoMemory) P = Unit {0}
UnlessNoMemory (Err (Fault fault)) P = ⊥

-- a text begins with the text of this job, which is good
pub record SaysJob (w : Written) (text : List ℕ) : Type 0 where
  pub good : IsGoodWritten w
  pub rest : List ℕ
  pub spelled : text ≡ job_text w ++ rest

-- the text of this job is read without a fault, as this job, whatever follows it
pub record IsReadBack (w : Written) (rest : List ℕ) : Type 0 where
  pub no_fault : text_fault (job_text w ++ rest) ≡ None
  pub said : job_said (job_text w ++ rest) ≡ w

-- No input of the command begins another, and one that is cut short misses a line.
use Rattle.std.proofs.Common.{◌≡◌, ◌≢◌, ℕ, ◌+◌, ◌≤◌, List, [], ◌∷◌, ◌++◌, length, Some, None, refl, sym, ap, ◌∙◌, append-nil}
use Rattle.xv_base.specs.declared.text.LineWhy.TheVariants.{Unended}
use Rattle.xv_text.specs.Lines.{whole_lines}
use Rattle.xv_text.specs.Reading.{at_line}
use Rattle.xv_job.specs.Written.{Written, IsGoodWritten}
use Rattle.xv_job.specs.JobText.{job_lines, job_text}
use Rattle.xv_job.specs.Draft.{first_draft, job_reader}
use Rattle.xv_job.proofs.Texts.{job_fault as no_job_fault}
use Rattle.xv_script.proofs.Beginnings.{one_job_begins}
use Rattle.xv_top.specs.Refused.{input_limit}
use Rattle.xv_top.proofs.Fronts.{one-text-cut, short-enough, front-fits}
use Rattle.xv_run.specs.Refused.{run_fault, IsJob}
use Rattle.xv_run.proofs.Inputs.{alone, alone-behind, short-input}

pub job-cut : (front rest : List ℕ) → run_fault (front ++ rest) ≡ None → rest ≢ [] → run_fault front ≡ Some (at_line (length (whole_lines front) + 1) Unended)
job-cut front rest none some =
    let parts = short-enough (front ++ rest) (alone (front ++ rest)) none in
    short-input front (front-fits front rest parts.0) ∙ one-text-cut job_reader first_draft front rest parts.1 some

job-read : (w : Written) (text : List ℕ) → IsGoodWritten w → text ≡ job_text w → alone text ≡ None
job-read w text good is =
    let whole : text ≡ job_text w ++ [] = is ∙ sym (append-nil (job_text w)) in
    alone-behind text [] w (length (job_lines w) + 1) (no_job_fault w [] text good whole) good whole refl

pub spelled-job-cut : (w : Written) (front rest : List ℕ) → IsGoodWritten w → job_text w ≡ front ++ rest → rest ≢ [] → length front ≤ input_limit → run_fault front ≡ Some (at_line (length (whole_lines front) + 1) Unended)
spelled-job-cut w front rest good is some fits =
    short-input front fits ∙ one-text-cut job_reader first_draft front rest (job-read w (front ++ rest) good (sym is)) some

-- so nothing stands behind an input that is accepted
pub nothing-behind : (bytes rest : List ℕ) → run_fault bytes ≡ None → run_fault (bytes ++ rest) ≡ None → rest ≡ []
nothing-behind bytes [] none more = refl
nothing-behind bytes (b ∷ rest) none more =
    let some : (b ∷ rest) ≢ [] = λ is. absurd (cc) in
    let cut = job-cut bytes (b ∷ rest) more some in
    absurd (cc)

pub one-beginning : (v w : Written) (bytes rest : List ℕ) → IsJob bytes v → IsJob (bytes ++ rest) w → (v ≡ w) × (rest ≡ [])
one-beginning v w bytes rest one other =
    one_job_begins v w rest one.good other.good (ap (λ (xs : List ℕ). xs ++ rest) (sym one.text) ∙ other.text)

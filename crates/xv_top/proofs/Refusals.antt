-- An input is refused as its job, or behind it as its script.
use Rattle.std.proofs.Common.{◌≡◌, ℕ, ◌+◌, ◌≤◌, Bool, true, false, List, [], ◌∷◌, ◌++◌, length, length-append, drop, ◌==◌, Option, None, refl, ap, ◌∙◌, arith}
use Rattle.std.specs.Prelude.{nat_lt}
use Rattle.std.proofs.Math.Seq.{drop-append_seam}
use Rattle.std.proofs.lemmas.List.{length-map}
use Rattle.xv_base.specs.declared.text.LineFault.{LineFault}
use Rattle.xv_text.specs.Lines.{lines_of, has_rest, whole_lines, before_first, fields}
use Rattle.xv_text.specs.Reading.{first_fault, last_state, line_count}
use Rattle.xv_job.specs.Written.{Written, job_of}
use Rattle.xv_job.specs.Written.{IsGoodWritten}
use Rattle.xv_job.specs.Texts.{text_fault as job_text_fault}
use Rattle.xv_job.proofs.Texts.{job_read, job_is_said, lines_are, rest_is}
use Rattle.xv_job.specs.JobText.{job_lines, job_text}
use Rattle.xv_script.specs.Script.{first_script, script_reader, counts_of, text_fault}
use Rattle.xv_job.specs.Draft.{first_draft, job_reader}
use Rattle.xv_top.specs.Refused.{input_limit, input_fault, lines_fault, fault_or, script_behind}

-- a test of an order, where it is known
pub lt-is_not : (m n : ℕ) → n ≤ m → nat_lt m n ≡ false
lt-is_not m n h = grind (arith, nat_lt)

-- the job that the lines say, how many lines it has, and those behind it
abbrev pub job_said : List (List (List ℕ)) → Written
job_said lines = (last_state job_reader first_draft lines).job

abbrev pub job_length : List (List (List ℕ)) → ℕ
job_length lines = line_count job_reader first_draft lines

abbrev pub script_lines : List (List (List ℕ)) → List (List (List ℕ))
script_lines lines = drop (job_length lines) lines

abbrev pub job_lines_fault : List (List (List ℕ)) → Bool → Option LineFault
job_lines_fault lines rest = lines_fault job_reader first_draft script_behind first_script lines rest

pub short-input : (bytes : List ℕ) → length bytes ≤ input_limit → input_fault bytes ≡ job_lines_fault (lines_of bytes) (has_rest bytes)
short-input bytes within = rw (lt-is_not input_limit (length bytes) within) refl

-- where the job has none, the fault of what stands behind it is the input's
lines_fault-behind : (bytes behind : List ℕ) (w : Written) → job_text_fault bytes ≡ None → job_said (lines_of bytes) ≡ w → job_length (lines_of bytes) ≡ length (job_lines w) → lines_of bytes ≡ job_lines w ++ lines_of behind → has_rest bytes ≡ has_rest behind → job_lines_fault (lines_of bytes) (has_rest bytes) ≡ text_fault (counts_of (job_of w)) (length (job_lines w) + 1) behind
lines_fault-behind bytes behind w none said long parts rest =
    let cut : script_lines (lines_of bytes) ≡ lines_of behind =
    ap (λ n. drop n (lines_of bytes)) long ∙ (ap (λ (ls : List (List (List ℕ))). drop (length (job_lines w)) ls) parts ∙ drop-append_seam (job_lines w) (lines_of behind)) in
    ap (λ (f : Option LineFault). fault_or f (first_fault (script_reader (job_of (job_said (lines_of bytes)))) true first_script (job_length (lines_of bytes) + 1) (script_lines (lines_of bytes)) (has_rest bytes))) none
    ∙ (ap (λ (x : Written). first_fault (script_reader (job_of x)) true first_script (job_length (lines_of bytes) + 1) (script_lines (lines_of bytes)) (has_rest bytes)) said
    ∙ (ap (λ (n : ℕ). first_fault (script_reader (job_of w)) true first_script (n + 1) (script_lines (lines_of bytes)) (has_rest bytes)) long
    ∙ (ap (λ (ls : List (List (List ℕ))). first_fault (script_reader (job_of w)) true first_script (length (job_lines w) + 1) ls (has_rest bytes)) cut
    ∙ ap (λ (r : Bool). first_fault (script_reader (job_of w)) true first_script (length (job_lines w) + 1) (lines_of behind) r) rest)))

pub lines_fault-behind_job : (bytes behind : List ℕ) (w : Written) → job_text_fault bytes ≡ None → IsGoodWritten w → bytes ≡ job_text w ++ behind → job_lines_fault (lines_of bytes) (has_rest bytes) ≡ text_fault (counts_of (job_of w)) (length (job_lines w) + 1) behind
lines_fault-behind_job bytes behind w none good is =
    let parts = lines_are w behind bytes good is in
    let read = job_read w behind bytes good is in
    lines_fault-behind bytes behind w none (job_is_said w behind bytes good is)
    (ap (λ (ls : List (List (List ℕ))). job_length ls) parts ∙ read.count) parts (rest_is w behind bytes is)

pub fault-behind_job : (bytes behind : List ℕ) (w : Written) → length bytes ≤ input_limit → job_text_fault bytes ≡ None → IsGoodWritten w → bytes ≡ job_text w ++ behind → input_fault bytes ≡ text_fault (counts_of (job_of w)) (length (job_lines w) + 1) behind
fault-behind_job bytes behind w within none good is = short-input bytes within ∙ lines_fault-behind_job bytes behind w none good is

-- a text has no more lines than bytes
before-length : (b : ℕ) (items : List (List ℕ)) → length (before_first b items) ≡ length items
before-length b [] = refl
before-length b (item ∷ items) = refl

lines-more : (b : ℕ) (text : List ℕ) (feed : Bool) → (b == 10) ≡ feed → length (whole_lines (b ∷ text)) ≤ length (whole_lines text) + 1
lines-more b text true is = rw is (omega arith)
lines-more b text false is = rw is (omega (arith, before-length b (whole_lines text)))

pub lines-within : (text : List ℕ) → length (whole_lines text) ≤ length text
lines-within [] = omega arith
lines-within (b ∷ text) = omega (arith, lines-more b text (b == 10) refl, lines-within text)

-- the lines of a job and of what stands behind it are no more than the text's bytes
pub lines-behind : (text behind : List ℕ) (w : Written) → lines_of text ≡ job_lines w ++ lines_of behind → length (job_lines w) + length (whole_lines behind) ≤ length text
lines-behind text behind w parts =
    omega (arith, lines-within text, length-map (whole_lines text) fields, length-map (whole_lines behind) fields, ap (λ (ls : List (List (List ℕ))). length ls) parts, length-append (job_lines w) (lines_of behind))

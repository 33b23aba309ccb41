-- A job is read by the loop over the lines of a text: few of them are read, and what they say is the job of the text.
use Rattle.std.proofs.Common.{◌≡◌, ℕ, false, ◌+◌, ◌≤◌, ◌^◌, ◌++◌, List, [], ◌∷◌, length, take, Option, Some, None, Err, sym, ap, ◌∙◌, subst, arith, inl, inr, refl}
use Rattle.std.proofs.lemmas.Bool.{cases_Bool}
use Rattle.std.proofs.lemmas.List.{length-append, length-take-le}
use Rattle.xv_base.specs.declared.text.LineWhy.{LineWhy}
use Rattle.xv_base.specs.declared.text.TextError.{TextError}
use Rattle.xv_base.specs.declared.text.TextError.TheVariants.{Fault, NoMemory}
use Rattle.xv_text.specs.Lines.{lines_of, has_rest, text_of}
use Rattle.xv_text.specs.Reading.{first_fault, last_state, line_count, one_more_unless, IfFault}
use Rattle.xv_text.proofs.Progress.{count_below}
use Rattle.xv_job.specs.Draft.{Draft, first_draft, next_draft, line_fault, is_complete, job_reader}
use Rattle.xv_job.specs.JobText.{job_lines, job_text}
use Rattle.xv_job.specs.Texts.{text_fault, job_said, UnlessNoMemory}
use Rattle.xv_job.specs.Written.{Written, IsGoodWritten}
use Rattle.xv_job.proofs.Backward.{Reached, in_head, step_line, sound}
use Rattle.xv_job.proofs.Head.{at_start}
use Rattle.xv_job.proofs.Few.{lines_few}
use Rattle.xv_job.proofs.Texts.{not_refused}

-- few lines are read
few_by : (d : Draft) (l : List (List ℕ)) (ls before : List (List (List ℕ))) (why : Option LineWhy) → line_fault d l ≡ why → is_complete d ≡ false → Reached d before → length before ≤ 2 ^ 22
    → ((next : Draft) (more : List (List (List ℕ))) → Reached next more → length more ≤ 2 ^ 22 + 1 → length more + line_count job_reader next ls ≤ 2 ^ 22 + 1)
    → length before + one_more_unless why (line_count job_reader (next_draft d l) ls) ≤ 2 ^ 22 + 1
few_by d l ls before (Some why) e more r few go_on = omega arith
few_by d l ls before None fine more r few go_on =
    omega (arith, go_on (next_draft d l) (before ++ l ∷ []) (step_line d before l r more fine) (omega (arith, length-append before (l ∷ []))), length-append before (l ∷ []))

few_from : (ls : List (List (List ℕ))) (d : Draft) (before : List (List (List ℕ))) → Reached d before → length before ≤ 2 ^ 22 + 1 → length before + line_count job_reader d ls ≤ 2 ^ 22 + 1
few_from [] d before r few = omega arith
few_from (l ∷ ls) d before r few = elim (cases_Bool (is_complete d)) [
  | inl done ↦ rw done (omega arith)
  | inr more ↦ rw more (few_by d l ls before (line_fault d l) refl more r (lines_few d before r more) (λ next on s f. few_from ls next on s f))
]

pub job_lines_few : (text : List ℕ) (d : Draft) → d ≡ first_draft → line_count job_reader d (lines_of text) ≤ 2 ^ 22 + 1
job_lines_few text d e =
    let P : Draft → Type 0 = λ x. line_count job_reader x (lines_of text) ≤ 2 ^ 22 + 1 in
    subst P (sym e) (omega (arith, few_from (lines_of text) first_draft [] (in_head at_start) (omega arith)))

-- what has been read
pub record IsJobRead (text : List ℕ) (w : Written) (byte line : ℕ) : Type 0 where
  pub no_fault : text_fault text ≡ None
  pub good : IsGoodWritten w
  pub front : take byte text ≡ job_text w
  pub number : line ≡ length (job_lines w) + 1
  pub said : w ≡ job_said text

read_from_first : (text : List ℕ) (byte line : ℕ) → text_fault text ≡ None → line ≡ 1 + line_count job_reader first_draft (lines_of text)
    → take byte text ≡ text_of (take (line_count job_reader first_draft (lines_of text)) (lines_of text)) → IsJobRead text (job_said text) byte line
read_from_first text byte line h n f =
    let s = sound (lines_of text) first_draft 1 (has_rest text) [] (in_head at_start) h in
    let k = line_count job_reader first_draft (lines_of text) in
    let long : length (take k (lines_of text)) ≡ k = length-take-le k (lines_of text) (count_below job_reader first_draft (lines_of text)) in
    record { no_fault = h; good = s.good; front = f ∙ ap text_of s.lines; number = omega (arith, n, long, ap length s.lines); said = refl }

pub job_is_read : (text : List ℕ) (d e : Draft) (byte line : ℕ) → d ≡ first_draft → first_fault job_reader false d 1 (lines_of text) (has_rest text) ≡ None
    → e ≡ last_state job_reader d (lines_of text) → line ≡ 1 + line_count job_reader d (lines_of text)
    → take byte text ≡ text_of (take (line_count job_reader d (lines_of text)) (lines_of text)) → IsJobRead text e.job byte line
job_is_read text d e byte line first h last n f =
    let P : Draft → Type 0 = λ x. IsJobRead text x.job byte line in
    let Q : Draft → Type 0 = λ x. first_fault job_reader false x 1 (lines_of text) (has_rest text) ≡ None → e ≡ last_state job_reader x (lines_of text) → line ≡ 1 + line_count job_reader x (lines_of text)
    → take byte text ≡ text_of (take (line_count job_reader x (lines_of text)) (lines_of text)) → IsJobRead text e.job byte line in
    subst Q (sym first) (λ h' last' n' f'. subst P (sym last') (read_from_first text byte line h' n' f')) h last n f

-- how a text is refused
pub fault_first : (text : List ℕ) (d : Draft) (error : TextError) → d ≡ first_draft → IfFault {A = ℕ} (Err error) (λ fault. first_fault job_reader false d 1 (lines_of text) (has_rest text) ≡ Some fault)
    → IfFault {A = ℕ} (Err error) (λ fault. text_fault text ≡ Some fault)
fault_first text d error e h =
    let P : Draft → Type 0 = λ x. IfFault {A = ℕ} (Err error) (λ fault. first_fault job_reader false x 1 (lines_of text) (has_rest text) ≡ Some fault) in
    subst P e h

pub only_refused : {A : Type 0} (P : A → Type 0) (text : List ℕ) (error : TextError) (w : Written) (rest : List ℕ) → IfFault {A = ℕ} (Err error) (λ fault. text_fault text ≡ Some fault)
    → IsGoodWritten w → text ≡ job_text w ++ rest → UnlessNoMemory (Err error) P
only_refused P text NoMemory w rest h g e = tt
only_refused P text (Fault fault) w rest h g e = not_refused w rest text fault g e h

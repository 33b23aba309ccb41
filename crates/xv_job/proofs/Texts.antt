-- Texts that begin with a job, read and written.
use Rattle.std.proofs.Common.{◌≡◌, ℕ, zero, suc, ◌+◌, ◌≤◌, Bool, true, false, List, [], ◌∷◌, ◌++◌, length, map, drop, ◌==◌, ◌⊎◌, inl, inr, Some, None, refl, sym, ap, ◌∙◌, subst, arith, append_assoc}
use Rattle.std.specs.List.{list_any}
use Rattle.std.proofs.lemmas.Bool.{cases_Bool, or_from, eqb-true}
use Rattle.xv_text.specs.Lines.{lines_of, has_rest, fields, text_of}
use Rattle.xv_text.specs.Reading.{first_fault, last_state, line_count}
use Rattle.xv_text.specs.Cuts.{Lacks, IsCut}
use Rattle.xv_text.proofs.Cuts.{cut_shorter, whole_lines-none}
use Rattle.std.proofs.lemmas.List.{take-append-drop}
use Rattle.xv_text.proofs.Apart.{text_of-cut, lines_of-text, has_rest-text, text_of-append}
use Rattle.xv_job.specs.Draft.{Draft, first_draft, next_draft, is_complete, job_reader}
use Rattle.xv_job.specs.JobText.{job_lines, job_text}
use Rattle.xv_job.specs.Written.{Written, IsGoodWritten}
use Rattle.xv_base.specs.declared.text.LineFault.{LineFault}
use Rattle.xv_job.specs.Texts.{text_fault, job_said, SaysJob, IsReadBack}
use Rattle.xv_job.proofs.Backward.{sound, in_head}
use Rattle.xv_job.proofs.Head.{at_start}
use Rattle.xv_job.proofs.Steps.{Reads}
use Rattle.xv_job.proofs.Forward.{job_reads}
use Rattle.xv_job.proofs.Plain.{job_plain}

-- lines that are read from one draft to a complete one: no fault, and that draft is the last
pub record AreRead (d : Draft) (n : ℕ) (lines more : List (List (List ℕ))) (rest : Bool) (e : Draft) : Type 0 where
  pub no_fault : first_fault job_reader false d n (lines ++ more) rest ≡ None
  pub last : last_state job_reader d (lines ++ more) ≡ e
  pub count : line_count job_reader d (lines ++ more) ≡ length lines

ended : (d : Draft) (n : ℕ) (more : List (List (List ℕ))) (rest : Bool) → is_complete d ≡ true → AreRead d n [] more rest d
ended d n [] rest h = record { no_fault = rw h refl; last = refl; count = refl }
ended d n (l ∷ more) rest h = record { no_fault = rw h refl; last = rw h refl; count = rw h refl }

pub are_read : (d : Draft) (n : ℕ) (lines more : List (List (List ℕ))) (rest : Bool) (e : Draft) → is_complete e ≡ true → Reads d lines e → AreRead d n lines more rest e
are_read d n [] more rest e done h =
    let P : Draft → Type 0 = λ x. AreRead x n [] more rest e in
    subst P (sym h) (ended e n more rest done)
are_read d n (l ∷ lines) more rest e done h =
    let next = are_read (next_draft d l) (n + 1) lines more rest e done h.2 in
    let go = h.0 in
    let fine = h.1 in
    record {
      no_fault = rw (go, fine) next.no_fault;
      last = rw go next.last;
      count = rw (go, fine) (omega (arith, next.count));
    }

-- the text of a good job, and what follows it
pub job_read : (w : Written) (rest text : List ℕ) → IsGoodWritten w → text ≡ job_text w ++ rest → AreRead first_draft 1 (job_lines w) (lines_of rest) (has_rest rest) (record { last = 15; job = w })
job_read w rest text g e = are_read first_draft 1 (job_lines w) (lines_of rest) (has_rest rest) (record { last = 15; job = w }) refl (job_reads w g)

pub lines_are : (w : Written) (rest text : List ℕ) → IsGoodWritten w → text ≡ job_text w ++ rest → lines_of text ≡ job_lines w ++ lines_of rest
lines_are w rest text g e = ap lines_of e ∙ lines_of-text (job_lines w) rest (job_plain w g)

pub rest_is : (w : Written) (rest text : List ℕ) → text ≡ job_text w ++ rest → has_rest text ≡ has_rest rest
rest_is w rest text e = ap has_rest e ∙ has_rest-text (job_lines w) rest

-- what reading has found, where the text begins with the text of a good job
pub job_fault : (w : Written) (rest text : List ℕ) → IsGoodWritten w → text ≡ job_text w ++ rest → text_fault text ≡ None
job_fault w rest text g e =
    let r = job_read w rest text g e in
    ap (λ (ls : List (List (List ℕ))). first_fault job_reader false first_draft 1 ls (has_rest text)) (lines_are w rest text g e)
    ∙ ap (λ (more : Bool). first_fault job_reader false first_draft 1 (job_lines w ++ lines_of rest) more) (rest_is w rest text e)
    ∙ r.no_fault

pub job_is_said : (w : Written) (rest text : List ℕ) → IsGoodWritten w → text ≡ job_text w ++ rest → job_said text ≡ w
job_is_said w rest text g e =
    let r = job_read w rest text g e in
    ap (λ (ls : List (List (List ℕ))). (last_state job_reader first_draft ls).job) (lines_are w rest text g e) ∙ ap (λ (d : Draft). d.job) r.last

pub not_refused : (w : Written) (rest text : List ℕ) (fault : LineFault) → IsGoodWritten w → text ≡ job_text w ++ rest → text_fault text ≡ Some fault → ⊥
not_refused w rest text fault g e h = let k : None ≡ Some fault = sym (job_fault w rest text g e) ∙ h in absurd (cc)

-- a text is its whole lines, and bytes behind them
pub record HasFront (text : List ℕ) : Type 0 where
  pub behind : List ℕ
  pub whole : text ≡ text_of (lines_of text) ++ behind

front_none : (text : List ℕ) → Lacks 10 text → HasFront text
front_none text h = record { behind = text; whole = ap (λ (ls : List (List ℕ)). text_of (map fields ls) ++ text) (sym (whole_lines-none text h)) }

front_cut : (text front back : List ℕ) → IsCut 10 text front back → HasFront back → HasFront text
front_cut text front back cut h = record {
  behind = h.behind;
  whole =
      cut.whole
      ∙ ap (λ (t : List ℕ). front ++ 10 ∷ t) h.whole
      ∙ sym (append_assoc front (10 ∷ text_of (lines_of back)) h.behind)
      ∙ ap (λ (t : List ℕ). t ++ h.behind) (sym (text_of-cut text front back cut));
}

-- a text has a first line feed, or none
record HasCut (text : List ℕ) : Type 0 where
  front : List ℕ
  back : List ℕ
  cut : IsCut 10 text front back

more_cut : (b : ℕ) (text : List ℕ) → (b == 10) ≡ false → HasCut text ⊎ Lacks 10 text → HasCut (b ∷ text) ⊎ Lacks 10 (b ∷ text)
more_cut b text other (inl c) = inl (record {
  front = b ∷ c.front;
  back = c.back;
  cut = record { whole = ap (λ (xs : List ℕ). b ∷ xs) c.cut.whole; first = or_from (b == 10) (list_any (λ x. x == 10) c.front) other c.cut.first };
})
more_cut b text other (inr none) = inr (or_from (b == 10) (list_any (λ x. x == 10) text) other none)

cut_or_lacks : (text : List ℕ) → HasCut text ⊎ Lacks 10 text
cut_or_lacks [] = inr refl
cut_or_lacks (b ∷ text) = elim (cases_Bool (b == 10)) [
  | inl feed ↦ inl (record { front = []; back = text; cut = record { whole = ap (λ (x : ℕ). x ∷ text) (eqb-true b 10 feed); first = refl } })
  | inr other ↦ more_cut b text other (cut_or_lacks text)
]

front_by : (n : ℕ) (text : List ℕ) → length text ≤ n → HasCut text ⊎ Lacks 10 text → HasFront text
front_by n text h (inr none) = front_none text none
front_by zero text h (inl c) = absurd (omega (arith, cut_shorter 10 text c.front c.back c.cut))
front_by (suc n) text h (inl c) =
    front_cut text c.front c.back c.cut (front_by n c.back (omega (arith, cut_shorter 10 text c.front c.back c.cut)) (cut_or_lacks c.back))

pub front_of : (text : List ℕ) → HasFront text
front_of text = front_by (length text) text (omega arith) (cut_or_lacks text)

-- what a text without a fault says
pub says_job : (text : List ℕ) → text_fault text ≡ None → SaysJob (job_said text) text
says_job text h =
    let s = sound (lines_of text) first_draft 1 (has_rest text) [] (in_head at_start) h in
    let n = line_count job_reader first_draft (lines_of text) in
    let f = front_of text in
    let lines : lines_of text ≡ job_lines (job_said text) ++ drop n (lines_of text) = sym (take-append-drop n (lines_of text)) ∙ ap (λ (ls : List (List (List ℕ))). ls ++ drop n (lines_of text)) s.lines in
    record {
      good = s.good;
      rest = text_of (drop n (lines_of text)) ++ f.behind;
      spelled =
          f.whole
          ∙ ap (λ (ls : List (List (List ℕ))). text_of ls ++ f.behind) lines
          ∙ ap (λ (t : List ℕ). t ++ f.behind) (text_of-append (job_lines (job_said text)) (drop n (lines_of text)))
          ∙ append_assoc (job_text (job_said text)) (text_of (drop n (lines_of text))) f.behind;
    }

-- no text of a job begins as that of another
pub one_job : (v w : Written) (a b : List ℕ) → IsGoodWritten v → IsGoodWritten w → job_text v ++ a ≡ job_text w ++ b → v ≡ w
one_job v w a b g h e = sym (job_is_said v a (job_text v ++ a) g refl) ∙ job_is_said w b (job_text v ++ a) h e

pub read_back : (w : Written) (rest : List ℕ) → IsGoodWritten w → IsReadBack w rest
read_back w rest g = record { no_fault = job_fault w rest (job_text w ++ rest) g refl; said = job_is_said w rest (job_text w ++ rest) g refl }

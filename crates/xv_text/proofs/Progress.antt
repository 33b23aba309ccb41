-- How far the lines of a text have been read: what is left decides as the whole text does.
use Rattle.std.proofs.Common.{◌≡◌, ◌==◌, ℕ, suc, ◌+◌, ◌-◌, ◌<◌, ◌≤◌, Bool, true, false, List, [], ◌∷◌, ◌++◌, length, map, take, Option, Some, None, refl, sym, ap, ◌∙◌, subst, arith, append_assoc, inl, inr}
use Rattle.std.specs.List.{list_any}
use Rattle.std.proofs.lemmas.Bool.{cases_Bool, eqb-true}
use Rattle.std.proofs.lemmas.List.{length-append, append-nil, take_at, length-map}
use Rattle.xv_base.specs.declared.text.LineFault.{LineFault}
use Rattle.xv_base.specs.declared.text.LineWhy.{LineWhy}
use Rattle.xv_base.specs.declared.text.LineWhy.TheVariants.{Order}
use Rattle.xv_text.specs.Lines.{whole_lines, lines_of, has_rest, fields, line, text_of}
use Rattle.xv_text.specs.Reading.{Reader, first_fault, last_state, line_count, one_more_unless, at_line, at_line_or}
use Rattle.xv_text.proofs.Cuts.{whole_lines-none}
use Rattle.xv_text.proofs.Apart.{line-fields, text_of-append, some_line}

-- what is wrong with a text that is read from a state on
abbrev pub fault_from : {S : Type 0} → Reader S → Bool → S → ℕ → List ℕ → Option LineFault
fault_from r ends s n text = first_fault r ends s n (lines_of text) (has_rest text)

-- lines before `rest` have been read without a fault, from the first state to this one
pub record IsAt {S : Type 0} (r : Reader S) (first : S) (first_line : ℕ) (text : List ℕ) (s : S) (n : ℕ) (rest : List ℕ) : Type 0 where
  pub before : List (List (List ℕ))
  pub lines : lines_of text ≡ before ++ lines_of rest
  pub front : text ≡ text_of before ++ rest
  pub number : n ≡ first_line + length before
  pub fault : (ends : Bool) → fault_from r ends first first_line text ≡ fault_from r ends s n rest
  pub last : last_state r first (lines_of text) ≡ last_state r s (lines_of rest)
  pub count : line_count r first (lines_of text) ≡ length before + line_count r s (lines_of rest)

-- a line in front of the rest
pub record IsFront (here behind rest : List ℕ) : Type 0 where
  pub cut : rest ≡ here ++ 10 ∷ behind
  pub lines : whole_lines rest ≡ here ∷ whole_lines behind
  pub rest_is : has_rest rest ≡ has_rest behind

lines_next : (here behind rest : List ℕ) → IsFront here behind rest → lines_of rest ≡ fields here ∷ lines_of behind
lines_next here behind rest f = ap (map fields) f.lines

fault_next : {S : Type 0} (r : Reader S) (ends : Bool) (s : S) (n : ℕ) (here behind rest : List ℕ) (why : Option LineWhy) → r.is_ended s ≡ false → IsFront here behind rest → r.fault s (fields here) ≡ why
    → fault_from r ends s n rest ≡ at_line_or n why (fault_from r ends (r.next s (fields here)) (n + 1) behind)
fault_next r ends s n here behind rest why more f e =
    let P : List (List (List ℕ)) → Type 0 = λ ls. first_fault r ends s n ls (has_rest rest) ≡ at_line_or n why (fault_from r ends (r.next s (fields here)) (n + 1) behind) in
    subst P (sym (lines_next here behind rest f)) (rw (more, f.rest_is, e) refl)

last_next : {S : Type 0} (r : Reader S) (s : S) (here behind rest : List ℕ) → r.is_ended s ≡ false → IsFront here behind rest
    → last_state r s (lines_of rest) ≡ last_state r (r.next s (fields here)) (lines_of behind)
last_next r s here behind rest more f =
    let P : List (List (List ℕ)) → Type 0 = λ ls. last_state r s ls ≡ last_state r (r.next s (fields here)) (lines_of behind) in
    subst P (sym (lines_next here behind rest f)) (rw more refl)

count_next : {S : Type 0} (r : Reader S) (s : S) (here behind rest : List ℕ) → r.is_ended s ≡ false → IsFront here behind rest → r.fault s (fields here) ≡ None
    → line_count r s (lines_of rest) ≡ line_count r (r.next s (fields here)) (lines_of behind) + 1
count_next r s here behind rest more f fine =
    let P : List (List (List ℕ)) → Type 0 = λ ls. line_count r s ls ≡ line_count r (r.next s (fields here)) (lines_of behind) + 1 in
    subst P (sym (lines_next here behind rest f)) (rw (more, fine) refl)

front_next : (text rest here behind : List ℕ) (before : List (List (List ℕ))) → text ≡ text_of before ++ rest → rest ≡ here ++ 10 ∷ behind → text ≡ text_of (before ++ fields here ∷ []) ++ behind
front_next text rest here behind before e f =
    let one : text_of (fields here ∷ []) ≡ here ++ 10 ∷ [] = append-nil (line (fields here)) ∙ line-fields here in
    let all : text_of (before ++ fields here ∷ []) ≡ text_of before ++ (here ++ 10 ∷ []) = text_of-append before (fields here ∷ []) ∙ ap (λ (t : List ℕ). text_of before ++ t) one in
    e ∙ ap (λ (r : List ℕ). text_of before ++ r) (f ∙ sym (append_assoc here (10 ∷ []) behind)) ∙ sym (append_assoc (text_of before) (here ++ 10 ∷ []) behind) ∙ ap (λ (t : List ℕ). t ++ behind) (sym all)

at_next_line : {S : Type 0} (r : Reader S) (first : S) (first_line : ℕ) (text : List ℕ) (s : S) (n : ℕ) (here behind rest : List ℕ) → IsAt r first first_line text s n rest
    → r.is_ended s ≡ false → IsFront here behind rest → r.fault s (fields here) ≡ None → IsAt r first first_line text (r.next s (fields here)) (n + 1) behind
at_next_line r first first_line text s n here behind rest a more f fine = record {
  before = a.before ++ fields here ∷ [];
  lines = a.lines ∙ ap (λ (ls : List (List (List ℕ))). a.before ++ ls) (lines_next here behind rest f) ∙ sym (append_assoc a.before (fields here ∷ []) (lines_of behind));
  front = front_next text rest here behind a.before a.front f.cut;
  number = omega (arith, a.number, length-append a.before (fields here ∷ []));
  fault = λ ends. a.fault ends ∙ fault_next r ends s n here behind rest None more f fine;
  last = a.last ∙ last_next r s here behind rest more f;
  count = omega (arith, a.count, count_next r s here behind rest more f fine, length-append a.before (fields here ∷ []));
}

pub at_next : {S : Type 0} (r q : Reader S) (first : S) (first_line : ℕ) (text : List ℕ) (s new : S) (n : ℕ) (here behind rest : List ℕ) → IsAt r first first_line text s n rest → q ≡ r
    → q.is_ended s ≡ false → IsFront here behind rest → q.fault s (fields here) ≡ None → new ≡ q.next s (fields here) → IsAt r first first_line text new (n + 1) behind
at_next {S = S} r q first first_line text s new n here behind rest a same more f fine e =
    let P : Reader S → Type 0 = λ x. x.is_ended s ≡ false → x.fault s (fields here) ≡ None → new ≡ x.next s (fields here) → IsAt r first first_line text new (n + 1) behind in
    let Q : S → Type 0 = λ x. IsAt r first first_line text x (n + 1) behind in
    subst P (sym same) (λ more' fine' e'. subst Q (sym e') (at_next_line r first first_line text s n here behind rest a more' f fine')) more fine e

order_by : {S : Type 0} (r : Reader S) (s : S) (n : ℕ) (ls : List (List ℕ)) (rest : Bool) → r.is_ended s ≡ true → 0 < length ls → first_fault r true s n (map fields ls) rest ≡ Some (at_line n Order)
order_by r s n [] rest ended h = absurd (omega arith)
order_by r s n (l ∷ ls) rest ended h = rw ended refl

something_behind : {S : Type 0} (r : Reader S) (s : S) (n : ℕ) (rest : List ℕ) → r.is_ended s ≡ true → 0 < length rest → fault_from r true s n rest ≡ Some (at_line n Order)
something_behind r s n [] ended h = absurd (omega arith)
something_behind r s n (b ∷ rest) ended h = elim (cases_Bool (list_any (λ x. x == 10) (b ∷ rest))) [
  | inl feed ↦ order_by r s n (whole_lines (b ∷ rest)) (has_rest (b ∷ rest)) ended (some_line (b ∷ rest) feed)
  | inr none ↦
      let no_lines : whole_lines (b ∷ rest) ≡ [] = whole_lines-none (b ∷ rest) none in
      let some_rest : has_rest (b ∷ rest) ≡ true = rw none refl in
      ap (λ (ls : List (List ℕ)). first_fault r true s n (map fields ls) (has_rest (b ∷ rest))) no_lines
      ∙ ap (λ (x : Bool). first_fault r true s n [] x) some_rest
      ∙ rw ended refl
]

pub behind_at : {S : Type 0} (r q : Reader S) (first : S) (first_line : ℕ) (text : List ℕ) (s : S) (n : ℕ) (rest : List ℕ) → IsAt r first first_line text s n rest
    → q ≡ r → q.is_ended s ≡ true → 0 < length rest → fault_from r true first first_line text ≡ Some (at_line n Order)
behind_at {S = S} r q first first_line text s n rest a same ended some =
    let Q : Reader S → Type 0 = λ x. x.is_ended s ≡ true → fault_from r true first first_line text ≡ Some (at_line n Order) in
    subst Q (sym same) (λ ended'. a.fault true ∙ something_behind r s n rest ended' some) ended

-- the end of a text
pub record IsFinished {S : Type 0} (r : Reader S) (ends : Bool) (first : S) (first_line : ℕ) (text : List ℕ) (s : S) (n : ℕ) (rest : List ℕ) : Type 0 where
  pub no_fault : fault_from r ends first first_line text ≡ None
  pub state : s ≡ last_state r first (lines_of text)
  pub number : n ≡ first_line + line_count r first (lines_of text)
  pub front : take (length text - length rest) text ≡ text_of (take (line_count r first (lines_of text)) (lines_of text))

by_lines : {S : Type 0} (r : Reader S) (s : S) (n : ℕ) (ls : List (List (List ℕ))) (rest : Bool) → r.is_ended s ≡ true → first_fault r false s n ls rest ≡ None
by_lines r s n [] rest ended = rw ended refl
by_lines r s n (l ∷ ls) rest ended = rw ended refl

none_wrong : {S : Type 0} (r : Reader S) (ends : Bool) (s : S) (n : ℕ) (rest : List ℕ) → r.is_ended s ≡ true → (ends ≡ true → rest ≡ []) → fault_from r ends s n rest ≡ None
none_wrong r true s n rest ended done = ap (λ (t : List ℕ). fault_from r true s n t) (done refl) ∙ rw ended refl
none_wrong r false s n rest ended done = by_lines r s n (lines_of rest) (has_rest rest) ended

stays : {S : Type 0} (r : Reader S) (s : S) (ls : List (List (List ℕ))) → r.is_ended s ≡ true → last_state r s ls ≡ s
stays r s [] h = refl
stays r s (l ∷ ls) h = rw h refl

pub none_more : {S : Type 0} (r : Reader S) (s : S) (ls : List (List (List ℕ))) → r.is_ended s ≡ true → line_count r s ls ≡ 0
none_more r s [] h = refl
none_more r s (l ∷ ls) h = rw h refl

finished_by : {S : Type 0} (r : Reader S) (ends : Bool) (first : S) (first_line : ℕ) (text : List ℕ) (s : S) (n : ℕ) (rest : List ℕ) → IsAt r first first_line text s n rest
    → r.is_ended s ≡ true → (ends ≡ true → rest ≡ []) → IsFinished r ends first first_line text s n rest
finished_by r ends first first_line text s n rest a ended done =
    let long : length text ≡ length (text_of a.before) + length rest = ap length a.front ∙ length-append (text_of a.before) rest in
    let bytes : length text - length rest ≡ length (text_of a.before) = omega arith in
    let count : line_count r first (lines_of text) ≡ length a.before = omega (arith, a.count, none_more r s (lines_of rest) ended) in
    let lines : take (line_count r first (lines_of text)) (lines_of text) ≡ a.before =
    ap (λ (k : ℕ). take k (lines_of text)) count ∙ ap (take (length a.before)) a.lines ∙ take_at a.before (lines_of rest) (length a.before) refl in
    record {
      no_fault = a.fault ends ∙ none_wrong r ends s n rest ended done;
      state = sym (a.last ∙ stays r s (lines_of rest) ended);
      number = omega (arith, a.number, count);
      front =
          ap (λ (k : ℕ). take k text) bytes ∙ ap (take (length (text_of a.before))) a.front ∙ take_at (text_of a.before) rest (length (text_of a.before)) refl
          ∙ ap text_of (sym lines);
    }

pub finished : {S : Type 0} (r q : Reader S) (ends : Bool) (first : S) (first_line : ℕ) (text : List ℕ) (s : S) (n : ℕ) (rest : List ℕ) → IsAt r first first_line text s n rest
    → q ≡ r → q.is_ended s ≡ true → (ends ≡ true → rest ≡ []) → IsFinished r ends first first_line text s n rest
finished {S = S} r q ends first first_line text s n rest a same ended done =
    let Q : Reader S → Type 0 = λ x. x.is_ended s ≡ true → IsFinished r ends first first_line text s n rest in
    subst Q (sym same) (λ ended'. finished_by r ends first first_line text s n rest a ended' done) ended

pub nothing_left : (rest : List ℕ) → true ≡ (length rest == 0) → rest ≡ []
nothing_left [] h = refl
nothing_left (b ∷ rest) h = absurd (omega (arith, eqb-true (length (b ∷ rest)) 0 (sym h)))

-- no more lines are read than there are
one_below : (why : Option LineWhy) (n k : ℕ) → n ≤ k → one_more_unless why n ≤ suc k
one_below None n k h = omega arith
one_below (Some why) n k h = omega arith

pub count_below : {S : Type 0} (r : Reader S) (s : S) (ls : List (List (List ℕ))) → line_count r s ls ≤ length ls
count_below r s [] = omega arith
count_below r s (l ∷ ls) = elim (cases_Bool (r.is_ended s)) [
  | inl ended ↦ rw ended (omega arith)
  | inr more ↦ rw more (one_below (r.fault s l) (line_count r (r.next s l) ls) (length ls) (count_below r (r.next s l) ls))
]

pub count_few : {S : Type 0} (r : Reader S) (s : S) (text : List ℕ) → line_count r s (lines_of text) ≤ length (whole_lines text)
count_few r s text = omega (arith, count_below r s (lines_of text), length-map (whole_lines text) fields)

-- A text is cut into lines, and a line into fields, at the first byte of a kind.
use Rattle.std.proofs.Common.{◌≡◌, ◌==◌, ◌<◌, ◌≤◌, ℕ, suc, ◌+◌, ◌-◌, Bool, true, false, List, [], ◌∷◌, ◌++◌, length, take, drop, get_or, drop-cons, Option, Some, None, refl, sym, ap, ◌∙◌, arith, if◌then◌else◌, add-one, inl, inr, IfSome, IfNone, IsTrue}
use Rattle.std.specs.List.{list_any, position, position_or_len}
use Rattle.std.proofs.lemmas.List.Sums.{fails_before_first}
use Rattle.std.proofs.lemmas.Grind.{common_steps}
use Rattle.std.proofs.lemmas.List.Quantifiers.{position-Some}
use Rattle.std.proofs.lemmas.Bool.{cases_Bool, or_parts, or_from, or_left, or_right, eq-eqb, eqb-true}
use Rattle.std.proofs.lemmas.List.{length-append, length-take-le, take-append-drop, get_or-take}
use Rattle.std.proofs.lemmas.Slice.{between_to_end}
use Rattle.xv_text.specs.Lines.{before_first, whole_lines, has_rest, fields}
use Rattle.xv_text.specs.Cuts.{Lacks, IsCut}

-- the first place of a byte cuts there
lacks_everywhere : (byte : ℕ) (xs : List ℕ) → ((k : ℕ) → k < length xs → (get_or xs k 0 == byte) ≡ false) → Lacks byte xs
lacks_everywhere byte [] h = refl
lacks_everywhere byte (x ∷ xs) h =
    or_from (x == byte) (list_any (λ b. b == byte) xs) (h 0 (omega arith)) (lacks_everywhere byte xs (λ k lt. h (suc k) (omega arith)))

lacks_before : (byte : ℕ) (xs : List ℕ) (n : ℕ) → n ≤ length xs → ((k : ℕ) → k < n → (get_or xs k 0 == byte) ≡ false) → Lacks byte (take n xs)
lacks_before byte xs n fits h =
    lacks_everywhere byte (take n xs) (λ k lt.
    let below : k < n = omega (arith, length-take-le n xs fits) in
    ap (λ x. x == byte) (get_or-take n xs k 0 below) ∙ h k below)

pub cut_at_place : (byte : ℕ) (text : List ℕ) (n : ℕ) → position (λ b. b == byte) text ≡ Some n
    → IsCut byte text (take n text) (take (length text - (n + 1)) (drop (n + 1) text))
cut_at_place byte text n found =
    let at = position-Some (λ b. b == byte) text n 0 found in
    let there : n < length text = at.0 in
    rw (between_to_end text (n + 1) (length text) (omega arith))
    (record {
      whole = sym (take-append-drop n text) ∙ ap (λ xs. take n text ++ xs) (drop-cons text n 0 there ∙ ap (λ k. get_or text n 0 ∷ drop k text) (sym (add-one n)) ∙ ap (λ b. b ∷ drop (n + 1) text) (eqb-true _ _ at.1));
      first = lacks_before byte text n (omega arith) at.2;
    })

pub cut_at_none : (byte : ℕ) (text : List ℕ) → position (λ b. b == byte) text ≡ None → Lacks byte text
cut_at_none byte text none =
    let past : length text ≤ position_or_len (λ b. b == byte) text = grind (arith, common_steps) in
    lacks_everywhere byte text (λ k lt. fails_before_first (λ b. b == byte) text k 0 (omega arith))

-- the lines of a text, and whether bytes stand behind them, from its first line feed on
whole_lines-front : (front back : List ℕ) → Lacks 10 front → whole_lines (front ++ 10 ∷ back) ≡ front ∷ whole_lines back
whole_lines-front [] back h = refl
whole_lines-front (b ∷ front) back h =
    let a = or_parts (b == 10) (list_any (λ x. x == 10) front) h in
    let other : (b == 10) ≡ false = a.0 in
    rw other (ap (before_first b) (whole_lines-front front back a.1))

pub whole_lines-cut : (text front back : List ℕ) → IsCut 10 text front back → whole_lines text ≡ front ∷ whole_lines back
whole_lines-cut text front back cut = ap whole_lines cut.whole ∙ whole_lines-front front back cut.first

pub whole_lines-none : (text : List ℕ) → Lacks 10 text → whole_lines text ≡ []
whole_lines-none [] h = refl
whole_lines-none (b ∷ text) h =
    let a = or_parts (b == 10) (list_any (λ x. x == 10) text) h in
    let other : (b == 10) ≡ false = a.0 in
    rw other (ap (before_first b) (whole_lines-none text a.1))

there_is : (byte : ℕ) (front back : List ℕ) → list_any (λ x. x == byte) (front ++ byte ∷ back) ≡ true
there_is byte [] back = or_left (byte == byte) _ (eq-eqb byte byte refl)
there_is byte (b ∷ front) back = or_right (b == byte) _ (there_is byte front back)

pub has_rest-front : (front back : List ℕ) → has_rest (front ++ 10 ∷ back) ≡ has_rest back
has_rest-front [] back = refl
has_rest-front (b ∷ front) back =
    let there : list_any (λ x. x == 10) (b ∷ (front ++ 10 ∷ back)) ≡ true = or_right (b == 10) _ (there_is 10 front back) in
    rw there (has_rest-front front back)

pub has_rest-cut : (text front back : List ℕ) → IsCut 10 text front back → has_rest text ≡ has_rest back
has_rest-cut text front back cut = ap has_rest cut.whole ∙ has_rest-front front back

-- the fields of a line from its first space on
fields-front : (front back : List ℕ) → Lacks 32 front → fields (front ++ 32 ∷ back) ≡ front ∷ fields back
fields-front [] back h = refl
fields-front (b ∷ front) back h =
    let a = or_parts (b == 32) (list_any (λ x. x == 32) front) h in
    let other : (b == 32) ≡ false = a.0 in
    rw other (ap (before_first b) (fields-front front back a.1))

pub fields-cut : (text front back : List ℕ) → IsCut 32 text front back → fields text ≡ front ∷ fields back
fields-cut text front back cut = ap fields cut.whole ∙ fields-front front back cut.first

pub fields-none : (text : List ℕ) → Lacks 32 text → fields text ≡ text ∷ []
fields-none [] h = refl
fields-none (b ∷ text) h =
    let a = or_parts (b == 32) (list_any (λ x. x == 32) text) h in
    let other : (b == 32) ≡ false = a.0 in
    rw other (ap (before_first b) (fields-none text a.1))

-- what stands behind a line is shorter than the text
pub cut_shorter : (byte : ℕ) (text front back : List ℕ) → IsCut byte text front back → length back < length text
cut_shorter byte text front back cut = omega (arith, ap length cut.whole, length-append front (byte ∷ back))

-- there is a field in every line
pub length-before_first : (b : ℕ) (items : List (List ℕ)) → length (before_first b items) ≡ length items
length-before_first b [] = refl
length-before_first b (item ∷ items) = refl

pub some_field : (text : List ℕ) → 0 < length (fields text)
some_field [] = omega arith
some_field (b ∷ text) = elim (cases_Bool (b == 32)) [
  | inl space ↦ rw space (omega arith)
  | inr other ↦ rw (other, length-before_first) (some_field text)
]

pub no_line_without : (text : List ℕ) → fields text ≡ [] → ⊥
no_line_without text h = omega (arith, some_field text, ap length h)

-- what follows from a fact on what is there, or from there being nothing
pub if_some : {A : Type 0} (P Q : A → Type 0) (r : Option A) → IfSome r P → ((x : A) → P x → Q x) → IfSome r Q
if_some P Q None h k = tt
if_some P Q (Some x) h k = k x h

pub if_none : {A : Type 0} (P Q : Type 0) (r : Option A) → IfNone r P → (P → Q) → IfNone r Q
if_none P Q None h k = k h
if_none P Q (Some x) h k = tt

-- fields that have ended are none
pub ended : (b : Bool) (bytes : List ℕ) (view : List (List ℕ)) → (if b then [] else fields bytes) ≡ view → (IsTrue b → view ≡ []) × (view ≡ [] → IsTrue b)
ended true bytes view e = (λ _. sym e, λ _. refl)
ended false bytes view e = (λ h. absurd (cc), λ h. absurd (no_line_without bytes (e ∙ h)))

-- What is put together as lines of fields is taken apart into the same, and what is taken apart is put together again.
use Rattle.std.proofs.Common.{◌≡◌, ◌==◌, ℕ, ◌<◌, ◌^◌, Bool, true, false, List, [], ◌∷◌, ◌++◌, length, map, decimal, refl, sym, ap, ◌∙◌, arith, append_assoc, inl, inr}
use Rattle.std.specs.Char.{is_ascii_digit}
use Rattle.std.specs.List.{list_any, list_all}
use Rattle.std.proofs.lemmas.Bool.{cases_Bool, or_parts, or_from, eqb-true, false_from_ne_true, and_parts}
use Rattle.std.proofs.lemmas.List.{append-nil}
use Rattle.std.proofs.lemmas.List.Concat.{flat_map-append}
use Rattle.xv_base.specs.Hex.{hex}
use Rattle.xv_text.specs.Lines.{before_first, whole_lines, has_rest, fields, line, text_of, lines_of}
use Rattle.xv_text.specs.Cuts.{Lacks, IsCut}
use Rattle.xv_text.specs.Fields.{is_hex_digit, IsPattern}
use Rattle.xv_text.proofs.Cuts.{whole_lines-cut, has_rest-front, fields-cut, fields-none, some_field, length-before_first}
use Rattle.xv_text.proofs.Numbers.{decimal_digits}
use Rattle.xv_text.proofs.HexFields.{hex_digits}

-- fields that a line can hold: without spaces and line feeds
pub record IsPlain (field : List ℕ) : Type 0 where
  pub no_space : Lacks 32 field
  pub no_feed : Lacks 10 field

abbrev pub ArePlain : List (List ℕ) → Type 0
ArePlain [] = Unit {0}
ArePlain (f ∷ fs) = IsPlain f × ArePlain fs

-- lines that a text can hold: each has a field, and its fields are plain
abbrev pub IsPlainLine : List (List ℕ) → Type 0
IsPlainLine fs = (0 < length fs) × ArePlain fs

abbrev pub ArePlainLines : List (List (List ℕ)) → Type 0
ArePlainLines [] = Unit {0}
ArePlainLines (l ∷ ls) = IsPlainLine l × ArePlainLines ls

-- bytes that pass a test that a byte fails lack that byte
lacks_other : (p : ℕ → Bool) (byte : ℕ) (xs : List ℕ) → list_all p xs ≡ true → p byte ≡ false → Lacks byte xs
lacks_other p byte [] h no' = refl
lacks_other p byte (x ∷ xs) h no' =
    let a = and_parts (p x) (list_all p xs) h in
    let other : (x == byte) ≡ false = false_from_ne_true _ (λ e. let t : p byte ≡ true = ap p (sym (eqb-true x byte e)) ∙ a.0 in absurd (cc)) in
    or_from (x == byte) (list_any (λ b. b == byte) xs) other (lacks_other p byte xs a.1 no')

-- numbers and patterns are plain
pub decimal_plain : (n : ℕ) → n < 2 ^ 64 → IsPlain (decimal n)
decimal_plain n h = record {
  no_space = lacks_other is_ascii_digit 32 (decimal n) (decimal_digits n h) refl;
  no_feed = lacks_other is_ascii_digit 10 (decimal n) (decimal_digits n h) refl;
}

pub hex_plain : (p : List ℕ) → IsPattern p → IsPlain (hex p)
hex_plain p h = record {
  no_space = lacks_other is_hex_digit 32 (hex p) (hex_digits p h) refl;
  no_feed = lacks_other is_hex_digit 10 (hex p) (hex_digits p h) refl;
}

-- a line without its line feed
abbrev pub joined : List (List ℕ) → List ℕ
joined [] = []
joined (f ∷ []) = f
joined (f ∷ g ∷ fs) = f ++ 32 ∷ joined (g ∷ fs)

pub line-joined : (fs : List (List ℕ)) → line fs ≡ joined fs ++ 10 ∷ []
line-joined [] = refl
line-joined (f ∷ []) = refl
line-joined (f ∷ g ∷ fs) = ap (λ xs. f ++ 32 ∷ xs) (line-joined (g ∷ fs)) ∙ sym (append_assoc f (32 ∷ joined (g ∷ fs)) (10 ∷ []))

lacks-append : (byte : ℕ) (xs ys : List ℕ) → Lacks byte xs → Lacks byte ys → Lacks byte (xs ++ ys)
lacks-append byte [] ys h k = k
lacks-append byte (x ∷ xs) ys h k =
    let a = or_parts (x == byte) (list_any (λ b. b == byte) xs) h in
    or_from (x == byte) _ a.0 (lacks-append byte xs ys a.1 k)

joined_lacks : (fs : List (List ℕ)) → ArePlain fs → Lacks 10 (joined fs)
joined_lacks [] h = refl
joined_lacks (f ∷ []) h = h.0.no_feed
joined_lacks (f ∷ g ∷ fs) h = lacks-append 10 f (32 ∷ joined (g ∷ fs)) h.0.no_feed (joined_lacks (g ∷ fs) h.1)

line_cut : (fs : List (List ℕ)) (rest : List ℕ) → ArePlain fs → IsCut 10 (line fs ++ rest) (joined fs) rest
line_cut fs rest h = record {
  whole = ap (λ xs. xs ++ rest) (line-joined fs) ∙ append_assoc (joined fs) (10 ∷ []) rest;
  first = joined_lacks fs h;
}

-- a line of plain fields is the first line, and its fields are these
pub whole_lines-line : (fs : List (List ℕ)) (rest : List ℕ) → ArePlain fs → whole_lines (line fs ++ rest) ≡ joined fs ∷ whole_lines rest
whole_lines-line fs rest h = whole_lines-cut (line fs ++ rest) (joined fs) rest (line_cut fs rest h)

pub fields-joined : (fs : List (List ℕ)) → IsPlainLine fs → fields (joined fs) ≡ fs
fields-joined [] h = absurd (omega (arith, h.0))
fields-joined (f ∷ []) h = fields-none f h.1.0.no_space
fields-joined (f ∷ g ∷ fs) h =
    let cut : IsCut 32 (f ++ 32 ∷ joined (g ∷ fs)) f (joined (g ∷ fs)) = record { whole = refl; first = h.1.0.no_space } in
    fields-cut _ f (joined (g ∷ fs)) cut ∙ ap (λ xs. f ∷ xs) (fields-joined (g ∷ fs) (omega arith, h.1.1))

pub lines_of-line : (fs : List (List ℕ)) (rest : List ℕ) → IsPlainLine fs → lines_of (line fs ++ rest) ≡ fs ∷ lines_of rest
lines_of-line fs rest h =
    ap (map fields) (whole_lines-line fs rest h.1) ∙ ap (λ l. l ∷ lines_of rest) (fields-joined fs h)

pub has_rest-line : (fs : List (List ℕ)) (rest : List ℕ) → has_rest (line fs ++ rest) ≡ has_rest rest
has_rest-line fs rest =
    ap has_rest (ap (λ xs. xs ++ rest) (line-joined fs) ∙ append_assoc (joined fs) (10 ∷ []) rest) ∙ has_rest-front (joined fs) rest

-- a text of plain lines has these lines, and nothing behind them
pub text_of-append : (xs ys : List (List (List ℕ))) → text_of (xs ++ ys) ≡ text_of xs ++ text_of ys
text_of-append xs ys = flat_map-append line xs ys

pub lines_of-text : (ls : List (List (List ℕ))) (rest : List ℕ) → ArePlainLines ls → lines_of (text_of ls ++ rest) ≡ ls ++ lines_of rest
lines_of-text [] rest h = refl
lines_of-text (l ∷ ls) rest h =
    ap lines_of (append_assoc (line l) (text_of ls) rest)
    ∙ lines_of-line l (text_of ls ++ rest) h.0
    ∙ ap (λ xs. l ∷ xs) (lines_of-text ls rest h.1)

pub has_rest-text : (ls : List (List (List ℕ))) (rest : List ℕ) → has_rest (text_of ls ++ rest) ≡ has_rest rest
has_rest-text [] rest = refl
has_rest-text (l ∷ ls) rest =
    ap has_rest (append_assoc (line l) (text_of ls) rest) ∙ has_rest-line l (text_of ls ++ rest) ∙ has_rest-text ls rest

pub lines_of-text_of : (ls : List (List (List ℕ))) → ArePlainLines ls → lines_of (text_of ls) ≡ ls
lines_of-text_of ls h = ap lines_of (sym (append-nil (text_of ls))) ∙ lines_of-text ls [] h ∙ append-nil ls

pub has_rest-text_of : (ls : List (List (List ℕ))) → has_rest (text_of ls) ≡ false
has_rest-text_of ls = ap has_rest (sym (append-nil (text_of ls))) ∙ has_rest-text ls []

-- a line is its fields put together
line-space : (fs : List (List ℕ)) → 0 < length fs → line ([] ∷ fs) ≡ 32 ∷ line fs
line-space [] h = absurd (omega arith)
line-space (f ∷ fs) h = refl

line-before_first : (b : ℕ) (fs : List (List ℕ)) → 0 < length fs → line (before_first b fs) ≡ b ∷ line fs
line-before_first b [] h = absurd (omega arith)
line-before_first b (f ∷ []) h = refl
line-before_first b (f ∷ g ∷ fs) h = refl

pub line-fields : (bytes : List ℕ) → line (fields bytes) ≡ bytes ++ 10 ∷ []
line-fields [] = refl
line-fields (b ∷ bytes) = elim (cases_Bool (b == 32)) [
  | inl space ↦ rw space (line-space (fields bytes) (some_field bytes) ∙ ap (λ x. x ∷ line (fields bytes)) (sym (eqb-true b 32 space)) ∙ ap (λ xs. b ∷ xs) (line-fields bytes))
  | inr other ↦ rw other (line-before_first b (fields bytes) (some_field bytes) ∙ ap (λ xs. b ∷ xs) (line-fields bytes))
]

-- a text is its lines put together, where nothing stands behind them
pub text_of-cut : (text front back : List ℕ) → IsCut 10 text front back → text_of (lines_of text) ≡ front ++ 10 ∷ text_of (lines_of back)
text_of-cut text front back cut =
    ap (λ ls. text_of (map fields ls)) (whole_lines-cut text front back cut)
    ∙ ap (λ xs. xs ++ text_of (lines_of back)) (line-fields front)
    ∙ append_assoc front (10 ∷ []) (text_of (lines_of back))

pub some_line : (text : List ℕ) → list_any (λ b. b == 10) text ≡ true → 0 < length (whole_lines text)
some_line [] h = absurd (cc)
some_line (b ∷ text) h = elim (cases_Bool (b == 10)) [
  | inl feed ↦ rw feed (omega arith)
  | inr other ↦
      let later : list_any (λ x. x == 10) text ≡ true = rw other at h in
      rw (other, length-before_first) (some_line text later)
]

text_of-before_first : (b : ℕ) (ls : List (List ℕ)) → 0 < length ls → text_of (map fields (before_first b ls)) ≡ b ∷ text_of (map fields ls)
text_of-before_first b [] h = absurd (omega arith)
text_of-before_first b (l ∷ ls) h =
    ap (λ xs. xs ++ text_of (map fields ls)) (line-fields (b ∷ l)) ∙ ap (λ xs. b ∷ xs) (sym (ap (λ xs. xs ++ text_of (map fields ls)) (line-fields l)))

has_rest-more : (b : ℕ) (text : List ℕ) → has_rest (b ∷ text) ≡ false → (list_any (λ x. x == 10) (b ∷ text) ≡ true) × (has_rest text ≡ false)
has_rest-more b text h = elim (cases_Bool (list_any (λ x. x == 10) (b ∷ text))) [
  | inl feed ↦ (feed, rw feed at h)
  | inr none ↦ let t : true ≡ false = rw none at h in absurd (cc)
]

pub text_of-lines_of : (text : List ℕ) → has_rest text ≡ false → text_of (lines_of text) ≡ text
text_of-lines_of [] h = refl
text_of-lines_of (b ∷ text) h =
    let more = has_rest-more b text h in
    elim (cases_Bool (b == 10)) [
      | inl feed ↦ rw feed (ap (λ xs. 10 ∷ xs) (text_of-lines_of text more.1) ∙ ap (λ x. x ∷ text) (sym (eqb-true b 10 feed)))
      | inr other ↦
          let later : list_any (λ x. x == 10) text ≡ true = rw other at more.0 in
          rw other (text_of-before_first b (whole_lines text) (some_line text later) ∙ ap (λ xs. b ∷ xs) (text_of-lines_of text more.1))
    ]

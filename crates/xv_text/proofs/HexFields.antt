-- Fields that say bytes: two hexadecimal digits a byte.
use Rattle.std.proofs.Common.{◌≡◌, ◌==◌, ℕ, zero, suc, ◌+◌, ◌*◌, ◌/◌, ◌%◌, ◌<◌, ◌≤◌, Bool, true, false, List, [], ◌∷◌, ◌++◌, length, take, set, get_or, nat_le, if◌then◌else◌, refl, sym, ap, ◌∙◌, arith, inl, inr, ◌⊎◌, append_assoc}
use Rattle.std.specs.List.{list_all}
use Rattle.std.proofs.lemmas.Bool.{and_parts, and_from, eqb-true, eq-eqb, leb-true, le-leb}
use Rattle.std.proofs.lemmas.Bool.Decides.{nat_tests}
use Rattle.std.proofs.lemmas.List.{take_more, take_more_set, length-take-le}
use Rattle.xv_base.specs.Hex.{hex, hex_digit}
use Rattle.xv_text.specs.Fields.{is_hex, is_hex_digit, hex_value, hex_bytes, IsPattern}
use Rattle.xv_base.proofs.Hexes.{length-hex}
use Rattle.xv_text.proofs.Numbers.{all_four, from_four, all_more}

-- what digits stand for
pub hex_value_small : (d : ℕ) → is_hex_digit d ≡ true → hex_value d < 16
hex_value_small d h = grind (arith, nat_tests)

pub hex_digit_of_value : (d : ℕ) → is_hex_digit d ≡ true → hex_digit (hex_value d) ≡ d
hex_digit_of_value d h = grind (arith, nat_tests)

pub hex_digit_passes : (n : ℕ) → n < 16 → is_hex_digit (hex_digit n) ≡ true
hex_digit_passes n h = grind (arith, nat_tests)

pub value_of_hex_digit : (n : ℕ) → n < 16 → hex_value (hex_digit n) ≡ n
value_of_hex_digit n h = grind (arith, nat_tests)

-- the parts of the test
pub record IsHex (field : List ℕ) : Type 0 where
  pub digits : list_all is_hex_digit field ≡ true
  pub even : length field % 2 ≡ 0
  pub some : 2 ≤ length field
  pub few : length field ≤ 128

pub hex_parts : (field : List ℕ) → is_hex field ≡ true → IsHex field
hex_parts field h =
    let p = all_four (list_all is_hex_digit field) (length field % 2 == 0) (nat_le 2 (length field)) (nat_le (length field) 128) h in
    record { digits = p.0; even = eqb-true _ _ p.1; some = leb-true _ _ p.2; few = leb-true _ _ p.3 }

pub hex_from : (field : List ℕ) → IsHex field → is_hex field ≡ true
hex_from field n = from_four _ _ _ _ n.digits (eq-eqb _ _ n.even) (le-leb _ _ n.some) (le-leb _ _ n.few)

-- two digits more
hex_bytes-push : (xs : List ℕ) (high low : ℕ) → length xs % 2 ≡ 0 → hex_bytes (xs ++ high ∷ low ∷ []) ≡ hex_bytes xs ++ (16 * hex_value high + hex_value low) ∷ []
hex_bytes-push [] high low even = refl
hex_bytes-push (a ∷ []) high low even = absurd (omega arith)
hex_bytes-push (a ∷ b ∷ xs) high low even =
    ap (λ ys. (16 * hex_value a + hex_value b) ∷ ys) (hex_bytes-push xs high low (omega arith))

take_two : (xs : List ℕ) (i : ℕ) → 2 * i + 1 < length xs → take (2 * (i + 1)) xs ≡ take (2 * i) xs ++ get_or xs (2 * i) 0 ∷ get_or xs (2 * i + 1) 0 ∷ []
take_two xs i h =
    let n : 2 * (i + 1) ≡ (2 * i + 1) + 1 = omega arith in
    ap (λ (k : ℕ). take k xs) n ∙ take_more xs (2 * i + 1) 0 h ∙ ap (λ (ys : List ℕ). ys ++ get_or xs (2 * i + 1) 0 ∷ []) (take_more xs (2 * i) 0 (omega arith)) ∙ append_assoc (take (2 * i) xs) (get_or xs (2 * i) 0 ∷ []) (get_or xs (2 * i + 1) 0 ∷ [])

length-take_two : (xs : List ℕ) (i : ℕ) → 2 * i ≤ length xs → length (take (2 * i) xs) % 2 ≡ 0
length-take_two xs i h = rw (length-take-le (2 * i) xs h) (omega arith)

-- the bytes decoded so far, with one more
pub decoded : (into digits : List ℕ) (i high low : ℕ) → i < length into → 2 * i + 1 < length digits
    → high ≡ hex_value (get_or digits (2 * i) 0) → low ≡ hex_value (get_or digits (2 * i + 1) 0)
    → take i into ≡ hex_bytes (take (2 * i) digits) → take (i + 1) (set into i (16 * high + low)) ≡ hex_bytes (take (2 * (i + 1)) digits)
decoded into digits i high low fits more e f so =
    take_more_set into i (16 * high + low) fits
    ∙ ap (λ xs. xs ++ (16 * high + low) ∷ []) so
    ∙ ap (λ x. hex_bytes (take (2 * i) digits) ++ (16 * x + low) ∷ []) e
    ∙ ap (λ x. hex_bytes (take (2 * i) digits) ++ (16 * hex_value (get_or digits (2 * i) 0) + x) ∷ []) f
    ∙ sym (hex_bytes-push (take (2 * i) digits) _ _ (length-take_two digits i (omega arith)))
    ∙ ap hex_bytes (sym (take_two digits i more))

pub all_two_more : (p : ℕ → Bool) (xs : List ℕ) (i : ℕ) → 2 * i + 1 < length xs → list_all p (take (2 * i) xs) ≡ true → p (get_or xs (2 * i) 0) ≡ true → p (get_or xs (2 * i + 1) 0) ≡ true → list_all p (take (2 * (i + 1)) xs) ≡ true
all_two_more p xs i lt h a b =
    let n : 2 * (i + 1) ≡ (2 * i + 1) + 1 = omega arith in
    ap (λ (k : ℕ). list_all p (take k xs)) n ∙ all_more p xs (2 * i + 1) lt (all_more p xs (2 * i) (omega arith) h a) b

-- a digit's value is at most 15, and another byte has none
chosen : (t : Bool) (x y v : ℕ) → v ≡ (if t then x else y) → ((t ≡ true) × (v ≡ x)) ⊎ ((t ≡ false) × (v ≡ y))
chosen true x y v e = inl (refl, e)
chosen false x y v e = inr (refl, e)

pub digit_tells : (b v : ℕ) → v ≡ (if is_hex_digit b then hex_value b else 255) → v ≤ 15 → (is_hex_digit b ≡ true) × (v ≡ hex_value b)
digit_tells b v e h = elim (chosen (is_hex_digit b) (hex_value b) 255 v e) [
  | inl t ↦ t
  | inr f ↦ absurd (omega (arith, f.1))
]

-- the bytes that digits stand for, and their digits
length-hex_bytes : (field : List ℕ) → length field % 2 ≡ 0 → 2 * length (hex_bytes field) ≡ length field
length-hex_bytes [] even = refl
length-hex_bytes (a ∷ []) even = absurd (omega arith)
length-hex_bytes (a ∷ b ∷ field) even = omega (arith, length-hex_bytes field (omega arith))

two_pass : (a b : ℕ) (field : List ℕ) → list_all is_hex_digit (a ∷ b ∷ field) ≡ true → (is_hex_digit a ≡ true) × (is_hex_digit b ≡ true) × (list_all is_hex_digit field ≡ true)
two_pass a b field h =
    let p = and_parts (is_hex_digit a) (list_all is_hex_digit (b ∷ field)) h in
    let q = and_parts (is_hex_digit b) (list_all is_hex_digit field) p.1 in
    (p.0, q.0, q.1)

hex_bytes-fit : (field : List ℕ) → list_all is_hex_digit field ≡ true → (i : ℕ) → get_or (hex_bytes field) i 0 < 256
hex_bytes-fit [] h i = omega arith
hex_bytes-fit (a ∷ []) h i = omega arith
hex_bytes-fit (a ∷ b ∷ field) h zero =
    let p = two_pass a b field h in
    omega (arith, hex_value_small a p.0, hex_value_small b p.1)
hex_bytes-fit (a ∷ b ∷ field) h (suc i) = hex_bytes-fit field (two_pass a b field h).2 i

-- a field that says bytes is the digits of these bytes, which are a pattern
hex-of_bytes : (field : List ℕ) → list_all is_hex_digit field ≡ true → length field % 2 ≡ 0 → field ≡ hex (hex_bytes field)
hex-of_bytes [] h even = refl
hex-of_bytes (a ∷ []) h even = absurd (omega arith)
hex-of_bytes (a ∷ b ∷ field) h even =
    let p = two_pass a b field h in
    let v = 16 * hex_value a + hex_value b in
    let up : v / 16 ≡ hex_value a = omega (arith, hex_value_small a p.0, hex_value_small b p.1) in
    let down : v % 16 ≡ hex_value b = omega (arith, hex_value_small a p.0, hex_value_small b p.1) in
    let high : a ≡ hex_digit (v / 16) = sym (ap hex_digit up ∙ hex_digit_of_value a p.0) in
    let low : b ≡ hex_digit (v % 16) = sym (ap hex_digit down ∙ hex_digit_of_value b p.1) in
    ap (λ x. x ∷ b ∷ field) high ∙ ap (λ x. hex_digit (v / 16) ∷ x ∷ field) low
    ∙ ap (λ xs. hex_digit (v / 16) ∷ hex_digit (v % 16) ∷ xs) (hex-of_bytes field p.2 (omega arith))

pub bytes_hex : (field : List ℕ) → is_hex field ≡ true → field ≡ hex (hex_bytes field)
bytes_hex field h = let n = hex_parts field h in hex-of_bytes field n.digits n.even

pub bytes_pattern : (field : List ℕ) → is_hex field ≡ true → IsPattern (hex_bytes field)
bytes_pattern field h =
    let n = hex_parts field h in
    let long = length-hex_bytes field n.even in
    record {
      some = omega (arith, long, n.some);
      few = omega (arith, long, n.few);
      bytes_fit = hex_bytes-fit field n.digits;
    }

-- and the digits of a pattern are such a field, and say this pattern
hex_bytes-of_hex : (p : List ℕ) → ((i : ℕ) → get_or p i 0 < 256) → hex_bytes (hex p) ≡ p
hex_bytes-of_hex [] h = refl
hex_bytes-of_hex (b ∷ p) h =
    let small : b < 256 = h 0 in
    let high = value_of_hex_digit (b / 16) (omega arith) in
    let low = value_of_hex_digit (b % 16) (omega arith) in
    let byte : 16 * hex_value (hex_digit (b / 16)) + hex_value (hex_digit (b % 16)) ≡ b = omega (arith, high, low) in
    ap (λ x. x ∷ hex_bytes (hex p)) byte ∙ ap (λ xs. b ∷ xs) (hex_bytes-of_hex p (λ i. h (suc i)))

pub hex_bytes-hex : (p : List ℕ) → IsPattern p → hex_bytes (hex p) ≡ p
hex_bytes-hex p h = hex_bytes-of_hex p h.bytes_fit

hex-all : (p : List ℕ) → ((i : ℕ) → get_or p i 0 < 256) → list_all is_hex_digit (hex p) ≡ true
hex-all [] h = refl
hex-all (b ∷ p) h =
    let small : b < 256 = h 0 in
    and_from (is_hex_digit (hex_digit (b / 16))) _ (hex_digit_passes (b / 16) (omega arith))
    (and_from (is_hex_digit (hex_digit (b % 16))) _ (hex_digit_passes (b % 16) (omega arith)) (hex-all p (λ i. h (suc i))))

pub hex_digits : (p : List ℕ) → IsPattern p → list_all is_hex_digit (hex p) ≡ true
hex_digits p h = hex-all p h.bytes_fit

pub hex-is_hex : (p : List ℕ) → IsPattern p → is_hex (hex p) ≡ true
hex-is_hex p h = hex_from (hex p) (record {
  digits = hex-all p h.bytes_fit;
  even = omega (arith, length-hex p);
  some = omega (arith, length-hex p, h.some);
  few = omega (arith, length-hex p, h.few);
})

-- The digits of sixteen bytes at once, lane by lane.
use Rattle.std.proofs.Common.{◌≡◌, ℕ, zero, suc, ◌+◌, ◌-◌, ◌*◌, ◌/◌, ◌%◌, ◌^◌, ◌<◌, ◌≤◌, Bool, true, ◌&&◌, List, [], ◌∷◌, ◌++◌, length, map, get_or, replicate, bit_and, refl, ap, ◌∙◌, subst, inl, inr, arith, w8, Fits, eqb, eqb-true, eq-zero-or-pos}
use Rattle.std.proofs.lemmas.Bool.{and_parts}
use Rattle.std.proofs.lemmas.Nat.{and_mask}
use Rattle.std.proofs.lemmas.Simd.{Each1-weaker, Each1-zip2, Each2-splat, below_from_Fits, length-zip2, pick_l_whole, swz_l, SwzOk, SwzOk-from_below, get_or-swz_l_below}
use Rattle.std.specs.Simd.Lanes.{zip2, Each1, pick_l}
use Rattle.xv_base.specs.Hex.{hex, hex_digit}

abbrev pub digits : List ℕ
digits = 48 ∷ 49 ∷ 50 ∷ 51 ∷ 52 ∷ 53 ∷ 54 ∷ 55 ∷ 56 ∷ 57 ∷ 97 ∷ 98 ∷ 99 ∷ 100 ∷ 101 ∷ 102 ∷ []

-- ---- the table holds the digit of each number

abbrev all_below : (ℕ → Bool) → ℕ → Bool
all_below p zero = true
all_below p (suc n) = p n && all_below p n

every_below : (p : ℕ → Bool) (n : ℕ) → all_below p n ≡ true → (i : ℕ) → i < n → p i ≡ true
every_below p zero h i l = absurd (omega arith)
every_below p (suc n) h i l =
    let parts = and_parts (p n) (all_below p n) h in
    elim (eq-zero-or-pos (n - i)) [
      | inl z ↦ let e : n ≡ i = omega arith in subst (λ (x : ℕ). p x ≡ true) e parts.0
      | inr g ↦ every_below p n parts.1 i (omega arith)
    ]

digit_at : (n : ℕ) → n < 16 → get_or digits n 0 ≡ hex_digit n
digit_at n h = eqb-true (get_or digits n 0) (hex_digit n) (every_below (λ i. eqb (get_or digits i 0) (hex_digit i)) 16 refl n h)

-- numbers below 16, looked up in it
pub within : (ns : List ℕ) → length ns ≡ 16 → Each1 (λ n. n < 16) ns → SwzOk w8 16 16 0 ns
within ns long small = SwzOk-from_below w8 16 1 16 0 ns refl (omega arith) small

looked_up : (ns : List ℕ) (i : ℕ) → i + length ns ≤ 16 → Each1 (λ n. n < 16) ns → swz_l w8 16 digits i ns ≡ map hex_digit ns
looked_up [] i few small = refl
looked_up (n ∷ ns) i few small =
    let place : 16 * ((i + 0) / 16) + n ≡ n = omega arith in
    ap (λ (d : ℕ). d ∷ swz_l w8 16 digits (suc i) ns)
    (get_or-swz_l_below w8 16 digits i (n ∷ ns) 0 (omega arith) small.0 ∙ ap (λ (k : ℕ). get_or digits k 0) place ∙ digit_at n small.0)
    ∙ ap (λ (ds : List ℕ). hex_digit n ∷ ds) (looked_up ns (suc i) (omega arith) small.1)

pub all_looked_up : (ns : List ℕ) → length ns ≡ 16 → Each1 (λ n. n < 16) ns → swz_l w8 16 digits 0 ns ≡ map hex_digit ns
all_looked_up ns long small = looked_up ns 0 (omega arith) small

-- ---- the halves of each byte

abbrev pub down : ℕ → ℕ → ℕ
down a b = a / 2 ^ b

abbrev pub high : List ℕ → List ℕ
high bs = zip2 down bs (replicate 16 4)

abbrev pub low : List ℕ → List ℕ
low bs = zip2 bit_and bs (replicate 16 15)

low_is : (b : ℕ) → bit_and b 15 ≡ b % 16
low_is b = and_mask b 4

pub high-long : (bs : List ℕ) → length bs ≡ 16 → length (high bs) ≡ 16
high-long bs long = omega (arith, length-zip2 down bs (replicate 16 4) long)

pub low-long : (bs : List ℕ) → length bs ≡ 16 → length (low bs) ≡ 16
low-long bs long = omega (arith, length-zip2 bit_and bs (replicate 16 15) long)

pub high-small : (bs : List ℕ) → Each1 (Fits w8) bs → Each1 (λ n. n < 16) (high bs)
high-small bs fit =
    let small = Each1-weaker (λ b. b < 256) (λ b. down b 4 < 16) (λ b h. omega arith) bs (below_from_Fits w8 bs fit) in
    Each1-zip2 down (λ n. n < 16) bs (replicate 16 4) (Each2-splat (λ a b. down a b < 16) bs 16 4 small)

pub low-small : (bs : List ℕ) → Each1 (Fits w8) bs → Each1 (λ n. n < 16) (low bs)
low-small bs fit =
    let small = Each1-weaker (λ b. b < 256) (λ b. bit_and b 15 < 16) (λ b h. omega (arith, low_is b)) bs (below_from_Fits w8 bs fit) in
    Each1-zip2 bit_and (λ n. n < 16) bs (replicate 16 15) (Each2-splat (λ a b. bit_and a b < 16) bs 16 15 small)

-- ---- both digits of each byte, side by side

abbrev pub places : List ℕ
places = 0 ∷ 16 ∷ 1 ∷ 17 ∷ 2 ∷ 18 ∷ 3 ∷ 19 ∷ 4 ∷ 20 ∷ 5 ∷ 21 ∷ 6 ∷ 22 ∷ 7 ∷ 23 ∷ 8 ∷ 24 ∷ 9 ∷ 25 ∷ 10 ∷ 26 ∷ 11 ∷ 27 ∷ 12 ∷ 28 ∷ 13 ∷ 29 ∷ 14 ∷ 30 ∷ 15 ∷ 31 ∷ []

abbrev paired : List ℕ → List ℕ
paired bs = pick_l 0 (map hex_digit (high bs) ++ map hex_digit (low bs)) places

-- the digits of both halves, by the operations on lanes
abbrev masked : List ℕ → List ℕ
masked [] = []
masked (b ∷ bs) = hex_digit (b / 16) ∷ hex_digit (bit_and b 15) ∷ masked bs

masked_is : (bs : List ℕ) → masked bs ≡ hex bs
masked_is [] = refl
masked_is (b ∷ bs) = ap (λ (n : ℕ). hex_digit (b / 16) ∷ hex_digit n ∷ masked bs) (low_is b) ∙ ap (λ (ds : List ℕ). hex_digit (b / 16) ∷ hex_digit (b % 16) ∷ ds) (masked_is bs)

-- sixteen bytes by their places
paired_is : (bs : List ℕ) → length bs ≡ 16 → paired bs ≡ masked bs
paired_is bs long = subst (λ (xs : List ℕ). paired xs ≡ masked xs) (pick_l_whole 0 bs 16 long) refl

pub digits_paired : (bs hs ls : List ℕ) → length bs ≡ 16 → hs ≡ map hex_digit (high bs) → ls ≡ map hex_digit (low bs) → pick_l 0 (hs ++ ls) places ≡ hex bs
digits_paired bs hs ls long e f =
    ap (λ (xs : List ℕ). pick_l 0 (xs ++ ls) places) e ∙ ap (λ (xs : List ℕ). pick_l 0 (map hex_digit (high bs) ++ xs) places) f ∙ paired_is bs long ∙ masked_is bs

-- Numbers in bytes: what is read at a place, and that writing and reading undo one another.
use Rattle.std.proofs.Common.{◌≡◌, ℕ, ◌+◌, ◌^◌, ◌<◌, ◌≤◌, List, [], ◌∷◌, ◌++◌, length, get_or, take, drop, arith, refl, add-zero, length-drop}
use Rattle.std.proofs.lemmas.List.{get_or-drop, get_or-take, length-take, get_or_past}
use Rattle.std.proofs.lemmas.Bool.{cases_lt}
use Rattle.std.proofs.Common.{inl, inr}
use Rattle.std.proofs.lemmas.Nat.{from_be_bytes-to_be_bytes_2, from_be_bytes-to_be_bytes_4, from_be_bytes-to_be_bytes_8, be_bytes_2, be_bytes_4, be_bytes_8}
use Rattle.std.specs.Int.{w16, w32, w64, to_be_bytes, from_be_bytes}
use Rattle.xv_frame.specs.Fields.{short_bytes, word_bytes, long_bytes, short_at, word_at, long_at}

pub short-at-two : (b : List ℕ) (at : ℕ) → from_be_bytes w16 (get_or b at 0 ∷ get_or b (at + 1) 0 ∷ []) ≡ short_at b at
unfolding short_at
short-at-two b at = simp (get_or-drop, add-zero) refl

pub word-at-four : (b : List ℕ) (at : ℕ) → from_be_bytes w32 (get_or b at 0 ∷ get_or b (at + 1) 0 ∷ get_or b (at + 2) 0 ∷ get_or b (at + 3) 0 ∷ []) ≡ word_at b at
unfolding word_at
word-at-four b at = simp (get_or-drop, add-zero) refl

pub long-at-eight : (b : List ℕ) (at : ℕ)
    → from_be_bytes w64 (get_or b at 0 ∷ get_or b (at + 1) 0 ∷ get_or b (at + 2) 0 ∷ get_or b (at + 3) 0 ∷ get_or b (at + 4) 0 ∷ get_or b (at + 5) 0 ∷ get_or b (at + 6) 0 ∷ get_or b (at + 7) 0 ∷ []) ≡ long_at b at
unfolding long_at
long-at-eight b at = simp (get_or-drop, add-zero) refl

-- how many bytes each has
pub length-short : (n : ℕ) → length (short_bytes n) ≡ 2
unfolding short_bytes
length-short n = refl

pub length-word : (n : ℕ) → length (word_bytes n) ≡ 4
unfolding word_bytes
length-word n = refl

pub length-long : (n : ℕ) → length (long_bytes n) ≡ 8
unfolding long_bytes
length-long n = refl

-- each item is a byte
abbrev pub AreBytes : List ℕ → Type 0
AreBytes b = (i : ℕ) → get_or b i 0 < 256

pub some-bytes : (b : List ℕ) (k n : ℕ) → AreBytes b → AreBytes (take n (drop k b))
some-bytes b k n h i = elim (cases_lt i n) [
  | inl below ↦ grind (arith, get_or-take n (drop k b) i 0 below, get_or-drop k b i 0, h (k + i))
  | inr past ↦ grind (arith, get_or_past (take n (drop k b)) i 0 (omega (arith, length-take n (drop k b))))
]

-- a number that was read is written as it stood
pub word-written : (b : List ℕ) (k : ℕ) → AreBytes b → k + 4 ≤ length b → word_bytes (word_at b k) ≡ take 4 (drop k b)
unfolding word_at word_bytes
word-written b k h fits = be_bytes_4 (take 4 (drop k b)) _ (omega (arith, length-take 4 (drop k b), length-drop k b)) (some-bytes b k 4 h)
    (grind (arith, get_or-take 4 (drop k b) 0 0, get_or-take 4 (drop k b) 1 0, get_or-take 4 (drop k b) 2 0, get_or-take 4 (drop k b) 3 0))

pub short-written : (b : List ℕ) (k : ℕ) → AreBytes b → k + 2 ≤ length b → short_bytes (short_at b k) ≡ take 2 (drop k b)
unfolding short_at short_bytes
short-written b k h fits = be_bytes_2 (take 2 (drop k b)) _ (omega (arith, length-take 2 (drop k b), length-drop k b)) (some-bytes b k 2 h)
    (grind (arith, get_or-take 2 (drop k b) 0 0, get_or-take 2 (drop k b) 1 0))

pub long-written : (b : List ℕ) (k : ℕ) → AreBytes b → k + 8 ≤ length b → long_bytes (long_at b k) ≡ take 8 (drop k b)
unfolding long_at long_bytes
long-written b k h fits = be_bytes_8 (take 8 (drop k b)) _ (omega (arith, length-take 8 (drop k b), length-drop k b)) (some-bytes b k 8 h)
    (grind (arith, get_or-take 8 (drop k b) 0 0, get_or-take 8 (drop k b) 1 0, get_or-take 8 (drop k b) 2 0, get_or-take 8 (drop k b) 3 0, get_or-take 8 (drop k b) 4 0, get_or-take 8 (drop k b) 5 0, get_or-take 8 (drop k b) 6 0, get_or-take 8 (drop k b) 7 0))

-- what std writes
pub short-is : (n : ℕ) (b : List ℕ) → b ≡ to_be_bytes w16 n → b ≡ short_bytes n
unfolding short_bytes
short-is n b e = e

pub word-is : (n : ℕ) (b : List ℕ) → b ≡ to_be_bytes w32 n → b ≡ word_bytes n
unfolding word_bytes
word-is n b e = e

pub long-is : (n : ℕ) (b : List ℕ) → b ≡ to_be_bytes w64 n → b ≡ long_bytes n
unfolding long_bytes
long-is n b e = e

pub word-fits : (b : List ℕ) (k : ℕ) → AreBytes b → word_at b k < 2 ^ 32
unfolding word_at
word-fits b k h = omega (arith, get_or-drop k b 0 0, get_or-drop k b 1 0, get_or-drop k b 2 0, get_or-drop k b 3 0, h (k + 0), h (k + 1), h (k + 2), h (k + 3))

pub long-fits : (b : List ℕ) (k : ℕ) → AreBytes b → long_at b k < 2 ^ 64
unfolding long_at
long-fits b k h = omega (arith, get_or-drop k b 0 0, get_or-drop k b 1 0, get_or-drop k b 2 0, get_or-drop k b 3 0, get_or-drop k b 4 0, get_or-drop k b 5 0, get_or-drop k b 6 0, get_or-drop k b 7 0, h (k + 0), h (k + 1), h (k + 2), h (k + 3), h (k + 4), h (k + 5), h (k + 6), h (k + 7))

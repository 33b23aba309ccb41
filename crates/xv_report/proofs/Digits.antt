-- How the digits of one byte more are written, and those of sixteen more.
use Rattle.std.proofs.Common.{◌≡◌, ℕ, ◌+◌, ◌*◌, ◌<◌, ◌≤◌, ◌/◌, ◌%◌, List, [], ◌∷◌, ◌++◌, length, take, drop, set, get_or, sym, ap, ◌∙◌, arith, append_assoc}
use Rattle.std.specs.Simd.Lanes.{chunk, put_chunk}
use Rattle.std.proofs.Math.Seq.{take-add}
use Rattle.std.proofs.lemmas.List.{take_more_set, length-set}
use Rattle.std.proofs.lemmas.Simd.{length-chunk, length-put_chunk, take_more_put_chunk}
use Rattle.xv_base.specs.Hex.{hex, hex_digit}
use Rattle.xv_base.proofs.Hexes.{hex_more, hex-append, length-hex}

-- two items written behind a front
two_more : (xs : List ℕ) (n m one two : ℕ) → m ≡ n + 2 → m ≤ length xs → take m (set (set xs n one) (n + 1) two) ≡ take n xs ++ one ∷ two ∷ []
two_more xs n m one two e h =
    let first : n < length xs = omega arith in
    let second : n + 1 < length (set xs n one) = omega (arith, length-set xs n one) in
    let all : m ≡ n + 1 + 1 = omega arith in
    ap (λ (k : ℕ). take k (set (set xs n one) (n + 1) two)) all ∙ take_more_set (set xs n one) (n + 1) two second
    ∙ ap (λ (ys : List ℕ). ys ++ two ∷ []) (take_more_set xs n one first) ∙ append_assoc (take n xs) (one ∷ []) (two ∷ [])

-- the digits of one byte more
pub digits_more : (bytes was now : List ℕ) (i one two : ℕ) → i < length bytes → length was ≡ 2 * length bytes → take (2 * i) was ≡ hex (take i bytes)
    → one ≡ hex_digit (get_or bytes i 0 / 16) → two ≡ hex_digit (get_or bytes i 0 % 16) → now ≡ set (set was (2 * i) one) (2 * i + 1) two
    → (length now ≡ 2 * length bytes) × (take (2 * (i + 1)) now ≡ hex (take (i + 1) bytes))
digits_more bytes was now i one two h long front first second e =
    let same : length now ≡ length was = ap length e ∙ length-set (set was (2 * i) one) (2 * i + 1) two ∙ length-set was (2 * i) one in (
      same ∙ long,
      ap (take (2 * (i + 1))) e ∙ two_more was (2 * i) (2 * (i + 1)) one two (omega arith) (omega arith)
          ∙ ap (λ (ys : List ℕ). ys ++ one ∷ two ∷ []) front
          ∙ ap (λ (d : ℕ). hex (take i bytes) ++ d ∷ two ∷ []) first
          ∙ ap (λ (d : ℕ). hex (take i bytes) ++ hex_digit (get_or bytes i 0 / 16) ∷ d ∷ []) second
          ∙ sym (hex_more bytes i h),
    )

-- the digits of sixteen bytes more
pub sixteen_more : (bytes was lanes : List ℕ) (done : ℕ) → done + 16 ≤ length bytes → length was ≡ 2 * length bytes → take (2 * done) was ≡ hex (take done bytes) → lanes ≡ hex (chunk done 16 bytes)
    → (done + 16 ≤ length bytes) × (length (put_chunk (2 * done) was lanes) ≡ 2 * length bytes) × (take (2 * (done + 16)) (put_chunk (2 * done) was lanes) ≡ hex (take (done + 16) bytes))
sixteen_more bytes was lanes done there long front e =
    let many : length lanes ≡ 32 = omega (arith, ap length e, length-hex (chunk done 16 bytes), length-chunk done 16 bytes there) in (
      there,
      length-put_chunk (2 * done) was lanes ∙ long,
      take_more_put_chunk (2 * done) was lanes (2 * (done + 16)) (omega (arith, many)) (omega arith)
          ∙ ap (λ (ds : List ℕ). ds ++ lanes) front
          ∙ ap (λ (ds : List ℕ). hex (take done bytes) ++ ds) e
          ∙ sym (hex-append (take done bytes) (take 16 (drop done bytes)))
          ∙ ap hex (sym (take-add done 16 bytes)),
    )

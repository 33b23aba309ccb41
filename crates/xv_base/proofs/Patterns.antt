-- A pattern that is repeated: each of its bytes, and what follows so many of them.
use Rattle.std.proofs.Common.{◌≡◌, ◌<◌, ◌≤◌, ℕ, zero, suc, ◌+◌, ◌*◌, ◌/◌, ◌%◌, ◌++◌, ◌∷◌, [], inl, inr, List, length, get_or, take, replicate, add-one, refl, sym, ap, ◌∙◌, arith, append-nil, append_assoc}
use Rattle.std.proofs.Math.Nat.{mod-add-div', add-mul-mod_self_right, mod-eq_of_lt}
use Rattle.std.proofs.Math.Seq.{get_or-append_seam}
use Rattle.std.proofs.lemmas.List.{get_or_append_left, length_push, replicate_more, take_more}
use Rattle.std.proofs.lemmas.Bool.{cases_lt}
use Rattle.xv_base.specs.Pattern.{repeated}

pub length-repeated : (pattern : List ℕ) (n : ℕ) → length (repeated pattern n) ≡ n
length-repeated pattern zero = refl
length-repeated pattern (suc n) = omega (arith, length_push (repeated pattern n) (get_or pattern (n % length pattern) 0), length-repeated pattern n)

-- with one byte more
repeated_more : (pattern : List ℕ) (n : ℕ) → repeated pattern (n + 1) ≡ repeated pattern n ++ get_or pattern (n % length pattern) 0 ∷ []
repeated_more pattern n = rw add-one refl

-- each byte
get_or-repeated : (pattern : List ℕ) (n i : ℕ) → i < n → get_or (repeated pattern n) i 0 ≡ get_or pattern (i % length pattern) 0
get_or-repeated pattern zero i h = absurd (omega arith)
get_or-repeated pattern (suc n) i h = elim (cases_lt i n) [
  | inl below ↦
      get_or_append_left (repeated pattern n) (get_or pattern (n % length pattern) 0 ∷ []) 0 i (omega (arith, length-repeated pattern n))
      ∙ get_or-repeated pattern n i below
  | inr above ↦
      let last : i ≡ length (repeated pattern n) = omega (arith, length-repeated pattern n) in
      let same : n ≡ i = omega arith in
      ap (λ k. get_or (repeated pattern n ++ get_or pattern (n % length pattern) 0 ∷ []) k 0) last
      ∙ get_or-append_seam (repeated pattern n) (get_or pattern (n % length pattern) 0) [] 0
      ∙ ap (λ k. get_or pattern (k % length pattern) 0) same
]

-- behind whole patterns the bytes come again
pub mod-again : (n m c : ℕ) → n % c ≡ 0 → (n + m) % c ≡ m % c
mod-again n m c whole =
    let parts : n + m ≡ m + n / c * c = omega (arith, mod-add-div' n c) in
    ap (λ k. k % c) parts ∙ add-mul-mod_self_right m (n / c) c

pub repeated_again : (pattern : List ℕ) (n m : ℕ) → n % length pattern ≡ 0 → m ≤ n → repeated pattern (n + m) ≡ repeated pattern n ++ take m (repeated pattern n)
repeated_again pattern n zero whole h =
    let none : n + 0 ≡ n = omega arith in
    ap (repeated pattern) none ∙ sym (append-nil (repeated pattern n))
repeated_again pattern n (suc m) whole h =
    let r = repeated pattern n in
    let next : n + suc m ≡ (n + m) + 1 = omega arith in
    let more : suc m ≡ m + 1 = omega arith in
    let byte : get_or pattern ((n + m) % length pattern) 0 ≡ get_or r m 0 =
    ap (λ k. get_or pattern k 0) (mod-again n m (length pattern) whole) ∙ sym (get_or-repeated pattern n m (omega arith)) in
    ap (repeated pattern) next
    ∙ repeated_more pattern (n + m)
    ∙ ap (λ bytes. bytes ++ get_or pattern ((n + m) % length pattern) 0 ∷ []) (repeated_again pattern n m whole (omega arith))
    ∙ ap (λ b. (r ++ take m r) ++ b ∷ []) byte
    ∙ append_assoc r (take m r) (get_or r m 0 ∷ [])
    ∙ ap (λ bytes. r ++ bytes) (sym (ap (λ k. take k r) more ∙ take_more r m 0 (omega (arith, length-repeated pattern n))))

-- a pattern before it is repeated
pub repeated_once : (pattern : List ℕ) (n : ℕ) → n ≤ length pattern → repeated pattern n ≡ take n pattern
repeated_once pattern zero h = refl
repeated_once pattern (suc n) h =
    let more : suc n ≡ n + 1 = omega arith in
    let below : n < length pattern = omega arith in
    let small : n % length pattern ≡ n = mod-eq_of_lt below in
    ap (repeated pattern) more
    ∙ repeated_more pattern n
    ∙ ap (λ bytes. bytes ++ get_or pattern (n % length pattern) 0 ∷ []) (repeated_once pattern n (omega arith))
    ∙ ap (λ k. take n pattern ++ get_or pattern k 0 ∷ []) small
    ∙ sym (ap (λ k. take k pattern) more ∙ take_more pattern n 0 (omega arith))

-- a pattern of one byte writes that byte
repeated-one : (byte n : ℕ) → repeated (byte ∷ []) n ≡ replicate n byte
repeated-one byte zero = refl
repeated-one byte (suc n) =
    let at : n % 1 ≡ 0 = omega arith in
    let next : n + 1 ≡ suc n = omega arith in
    ap (λ bytes. bytes ++ get_or (byte ∷ []) (n % 1) 0 ∷ []) (repeated-one byte n)
    ∙ ap (λ i. replicate n byte ++ get_or (byte ∷ []) i 0 ∷ []) at
    ∙ replicate_more n byte
    ∙ ap (λ m. replicate m byte) next

pub filled-one : (pattern : List ℕ) (n : ℕ) → length pattern ≡ 1 → replicate n (get_or pattern 0 0) ≡ repeated pattern n
filled-one [] n h = absurd (omega arith)
filled-one (byte ∷ []) n h = sym (repeated-one byte n)
filled-one (byte ∷ next ∷ rest) n h = absurd (omega arith)

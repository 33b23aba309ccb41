-- What tests say, and zeros.
use Rattle.std.proofs.Common.{◌≡◌, ℕ, zero, suc, ◌+◌, ◌≤◌, List, [], ◌∷◌, length, get_or, take, drop, sym, ap, ◌∙◌, arith, refl, Bool, true, false, not, ◌&&◌, ◌||◌, Option, Some, None, replicate, eqb, length-drop}
use Rattle.std.specs.Prelude.{if◌then◌else◌}
use Rattle.std.proofs.lemmas.Bool.{false≢true, eqb-true}
use Rattle.std.proofs.lemmas.List.{length-take}
use Rattle.xv_frame.specs.Fields.{all_zero, zero_at}

pub no-fault : {F : Type 0} (t : Bool) (f : F) (x : Option F) → (if t then Some f else x) ≡ None → (t ≡ false) × (x ≡ None)
no-fault true f x h = cc
no-fault false f x h = (refl, h)

pub not-false : (t : Bool) → not t ≡ false → t ≡ true
not-false true h = refl
not-false false h = absurd (false≢true (sym h))

pub both-true : (a b : Bool) → (a && b) ≡ true → (a ≡ true) × (b ≡ true)
both-true true b h = (refl, h)
both-true false b h = absurd (false≢true h)

pub both-false : (a b : Bool) → (a || b) ≡ false → (a ≡ false) × (b ≡ false)
both-false true b h = absurd (false≢true (sym h))
both-false false b h = (refl, h)

pub zeros-are : (xs : List ℕ) → all_zero xs ≡ true → xs ≡ replicate (length xs) 0
zeros-are [] h = refl
zeros-are (x ∷ xs) h =
    let each = both-true (eqb x 0) (all_zero xs) h in
    (λ i. eqb-true x 0 each.0 i ∷ zeros-are xs each.1 i)

pub zeros-all : (n : ℕ) → all_zero (replicate n 0) ≡ true
zeros-all zero = refl
zeros-all (suc n) = zeros-all n

-- zeros at a place
pub zeros-stand : (b : List ℕ) (k n : ℕ) → k + n ≤ length b → zero_at b k n ≡ true → take n (drop k b) ≡ replicate n 0
zeros-stand b k n fits h =
    let l : length (take n (drop k b)) ≡ n = omega (arith, length-take n (drop k b), length-drop k b) in
    zeros-are (take n (drop k b)) h ∙ ap (λ m. replicate m 0) l

-- the two bytes at a place
pub two-stand : (b : List ℕ) → 2 ≤ length b → take 2 b ≡ get_or b 0 0 ∷ get_or b 1 0 ∷ []
two-stand [] h = absurd (omega arith)
two-stand (x ∷ []) h = absurd (omega arith)
two-stand (x ∷ y ∷ b) h = refl

pub one-stands : (b : List ℕ) → 1 ≤ length b → take 1 b ≡ get_or b 0 0 ∷ []
one-stands [] h = absurd (omega arith)
one-stands (x ∷ b) h = refl

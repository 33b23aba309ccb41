-- Bytes that are joined are zero where each of them is.
use Rattle.std.proofs.Common.{◌≡◌, ℕ, zero, suc, ◌+◌, ◌<◌, ◌==◌, ◌&&◌, Bool, false, List, length, take, get_or, bit_or, sym, ap, ◌∙◌, arith}
use Rattle.std.specs.Int.Bits.{or_zero_l}
use Rattle.std.proofs.lemmas.Nat.{le_or_l}
use Rattle.std.proofs.lemmas.Bool.Decides.{nat_tests}
use Rattle.std.proofs.lemmas.List.Folds.{list_all_more}
use Rattle.xv_report.specs.Texts.{is_zero}

-- a number above zero is not zero, and numbers that are joined are zero where both are
not_zero : (n : ℕ) → 0 < n → (n == 0) ≡ false
not_zero n h = grind (arith, nat_tests)

both_zero : (a b : ℕ) → (bit_or a b == 0) ≡ ((a == 0) && (b == 0))
both_zero zero b = ap (λ (n : ℕ). n == 0) (or_zero_l b)
both_zero (suc n) b =
    not_zero (bit_or (suc n) b) (omega (arith, le_or_l (suc n) b)) ∙ sym (ap (λ (test : Bool). test && (b == 0)) (not_zero (suc n) (omega arith)))

-- one byte more
pub zero_more : (bytes : List ℕ) (i joined now : ℕ) → i < length bytes → (joined == 0) ≡ is_zero (take i bytes) → now ≡ bit_or joined (get_or bytes i 0)
    → (now == 0) ≡ is_zero (take (i + 1) bytes)
zero_more bytes i joined now h front e =
    ap (λ (n : ℕ). n == 0) e ∙ both_zero joined (get_or bytes i 0) ∙ ap (λ (b : Bool). b && (get_or bytes i 0 == 0)) front
    ∙ sym (list_all_more (λ (b : ℕ). b == 0) bytes i 0 h)

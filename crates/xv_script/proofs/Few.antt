-- A text has no more lines than bytes.
use Rattle.std.proofs.Common.{◌==◌, ℕ, ◌≤◌, List, [], ◌∷◌, length, arith, inl, inr}
use Rattle.std.proofs.lemmas.Bool.{cases_Bool}
use Rattle.xv_text.specs.Lines.{whole_lines}
use Rattle.xv_text.proofs.Cuts.{length-before_first}

pub few_lines : (text : List ℕ) → length (whole_lines text) ≤ length text
few_lines [] = omega arith
few_lines (b ∷ text) = elim (cases_Bool (b == 10)) [
  | inl feed ↦ rw feed (omega (arith, few_lines text))
  | inr other ↦ rw (other, length-before_first) (omega (arith, few_lines text))
]

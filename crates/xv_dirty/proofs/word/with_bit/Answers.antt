use Rattle.std.proofs.Common.{ℕ, ◌==◌, w64, ap, eq-eqb}
use Rattle.std.proofs.lemmas.Nat.Bits.{bit_at_set_same, bit_at_set_other}
use Rattle.xv_dirty.proofs.word.with_bit.Goals as goal

pub returns : goal.returns
returns c = record {
  there = eq-eqb _ _ (bit_at_set_same w64 c.args.word _ c.requires);
  others = λ i other. ap (λ (b : ℕ). b == 1) (bit_at_set_other w64 c.args.word _ c.requires i other);
}

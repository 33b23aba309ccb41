use Rattle.std.proofs.Common.{ℕ, ◌==◌, w64, ap}
use Rattle.std.proofs.lemmas.Nat.Bits.{bit_at_clear_same, bit_at_clear_other}
use Rattle.xv_dirty.proofs.word.without_bit.Goals as goal

pub returns : goal.returns
returns c = record {
  gone = ap (λ (b : ℕ). b == 1) (bit_at_clear_same w64 c.args.word _ c.requires);
  others = λ i below other. ap (λ (b : ℕ). b == 1) (bit_at_clear_other w64 c.args.word _ c.requires i below other);
}

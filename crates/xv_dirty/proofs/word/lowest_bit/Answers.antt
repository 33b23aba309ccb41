use Rattle.std.proofs.Common.{ℕ, ◌==◌, w64, ap, eq-eqb, arith}
use Rattle.std.proofs.lemmas.Nat.Bits.{bit_at-trailing_zeros}
use Rattle.xv_dirty.proofs.word.lowest_bit.Goals as goal

pub returns : goal.returns
returns c =
    let zeros = bit_at-trailing_zeros w64 c.args.word c.requires (omega arith) in
    record {
      within = zeros.0;
      there = eq-eqb _ _ zeros.1;
      first = λ i below. ap (λ (b : ℕ). b == 1) (zeros.2 i below);
    }

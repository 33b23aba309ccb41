use Rattle.std.proofs.Common.{ℕ, ◌==◌, ◌≡◌, ◌^◌, ◌-◌, ◌*◌, ◌%◌, ap, eq-eqb, ◌∙◌}
use Rattle.std.proofs.lemmas.Nat.{one_shl}
use Rattle.std.proofs.lemmas.Nat.Bits.{bit_at_ones, bit_at_ones_above}
use Rattle.xv_dirty.specs.Bits.{has}
use Rattle.xv_dirty.proofs.word.low_bits.Goals as goal

pub returns : goal.returns
returns c =
    let is : 1 * 2 ^ c.args.count % 2 ^ 64 - 1 ≡ 2 ^ c.args.count - 1 = ap (λ (p : ℕ). p - 1) (one_shl c.args.count 64 c.requires) in
    record {
      there = λ i below. ap (λ (w : ℕ). has w i) is ∙ eq-eqb _ _ (bit_at_ones c.args.count i below);
      none_past = λ i past. ap (λ (w : ℕ). has w i) is ∙ ap (λ (b : ℕ). b == 1) (bit_at_ones_above c.args.count i past);
    }

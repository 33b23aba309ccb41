use Rattle.std.proofs.Common.{ℕ, arith}
use Rattle.std.proofs.lemmas.List.Sums.{sum_by-take-drop}
use Rattle.xv_core.proofs.sums.issued_from.Goals as goal

pub loop-unit-init : goal.loop-unit-init
loop-unit-init g c = record {
  left = omega arith;
  few = omega (arith, sum_by-take-drop (λ (k : ℕ). k) c.args.source.now.issued c.args.first);
}

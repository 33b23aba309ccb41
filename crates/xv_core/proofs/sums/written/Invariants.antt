use Rattle.std.proofs.Common.{◌≡◌, ◌+◌, drop}
use Rattle.std.specs.Prelude.{sum}
use Rattle.xv_core.proofs.sums.written.Given as goal

abbrev pub invariant-loop-unit : goal.invariant-loop-unit
invariant-loop-unit g l = l.total + sum (drop l.unit l.dest.applied) ≡ sum l.dest.applied

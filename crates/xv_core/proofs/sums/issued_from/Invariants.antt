use Rattle.std.proofs.Common.{◌≡◌, ◌+◌, ◌<◌, ◌^◌, drop}
use Rattle.std.specs.Prelude.{sum}
use Rattle.xv_core.proofs.sums.issued_from.Given as goal

abbrev pub invariant-loop-unit : goal.invariant-loop-unit
invariant-loop-unit g l = record {
  left : l.total + sum (drop l.unit l.source.issued) ≡ sum (drop l.first l.source.issued);
  few : sum (drop l.first l.source.issued) < 2 ^ 32;
}

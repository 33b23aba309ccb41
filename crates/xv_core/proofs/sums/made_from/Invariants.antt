use Rattle.std.proofs.Common.{◌≡◌, ◌+◌, ◌≤◌, ℕ, drop}
use Rattle.std.specs.Prelude.{count_by, nat_lt}
use Rattle.xv_core.proofs.sums.made_from.Given as goal

abbrev pub invariant-loop-unit : goal.invariant-loop-unit
invariant-loop-unit g l = record {
  left : l.total + count_by (λ (k : ℕ). nat_lt 0 k) (drop l.unit l.source.issued) ≡ count_by (λ (k : ℕ). nat_lt 0 k) (drop l.first l.source.issued);
  few : l.total ≤ l.unit;
}

use Rattle.std.proofs.Common.{◌≡◌, ◌+◌, ◌++◌}
use Rattle.xv_report.specs.declared.counts.Job1.TheVariants.{Copier}
use Rattle.xv_shared.specs.FirstCrew.{each_below, fresh}
use Rattle.xv_shared.proofs.mustering.push_copiers.Given as goal

abbrev pub invariant-loop-disk : goal.invariant-loop-disk
invariant-loop-disk g l = record {
  pushed : l.passes.items ≡ l.initial.passes.items ++ each_below l.disk (λ k. fresh (Copier k));
  parts : l.share.parts + l.disk ≡ l.initial.share.parts;
  none : l.share.amount ≡ 0;
}

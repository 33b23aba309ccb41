use Rattle.std.proofs.Common.{◌≡◌, ◌++◌, map}
use Rattle.std.specs.List.{range_with_len}
use Rattle.xv_report.specs.declared.counts.Job1.TheVariants.{Copier}
use Rattle.xv_run.proofs.numbers.push_copiers.Given as goal

abbrev pub invariant-loop-disk : goal.invariant-loop-disk
invariant-loop-disk l = l.list.items ≡ l.initial.list.items ++ map Copier (range_with_len 0 l.disk)

use Rattle.std.proofs.Common.{◌≡◌, ◌++◌, map}
use Rattle.std.specs.List.{range_with_len}
use Rattle.xv_report.specs.declared.counts.Job1.TheVariants.{Guest}
use Rattle.xv_run.proofs.numbers.push_guests.Given as goal

abbrev pub invariant-loop-guest : goal.invariant-loop-guest
invariant-loop-guest l = l.list.items ≡ l.initial.list.items ++ map Guest (range_with_len 0 l.guest)

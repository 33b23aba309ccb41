use Rattle.std.proofs.Common.{◌≡◌, ◌++◌, map}
use Rattle.std.specs.List.{range_with_len}
use Rattle.xv_report.specs.declared.counts.Job1.TheVariants.{Receiver}
use Rattle.xv_run.proofs.numbers.push_receivers.Given as goal

abbrev pub invariant-loop-stream : goal.invariant-loop-stream
invariant-loop-stream l = l.list.items ≡ l.initial.list.items ++ map Receiver (range_with_len 0 l.stream)

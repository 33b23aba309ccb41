use Rattle.std.proofs.Common.{◌≡◌, ◌++◌, map}
use Rattle.std.specs.List.{range_with_len}
use Rattle.xv_report.specs.declared.counts.Job1.TheVariants.{Sender}
use Rattle.xv_run.proofs.numbers.push_senders.Given as goal

abbrev pub invariant-loop-stream : goal.invariant-loop-stream
invariant-loop-stream l = l.list.items ≡ l.initial.list.items ++ map Sender (range_with_len 0 l.stream)

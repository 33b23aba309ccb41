use Rattle.std.proofs.Common.{◌≡◌, map}
use Rattle.std.specs.List.{range_with_len}
use Rattle.xv_parts.specs.Memory.{stream_pipe}
use Rattle.xv_parts.proofs.beginning.streams.Given as goal

abbrev pub invariant-loop-stream : goal.invariant-loop-stream
invariant-loop-stream l = l.wires.items ≡ map (stream_pipe l.job) (range_with_len 0 l.stream)

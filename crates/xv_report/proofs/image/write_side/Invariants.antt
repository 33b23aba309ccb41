use Rattle.std.proofs.Common.{◌≡◌}
use Rattle.std.specs.List.{flat_map, range_with_len}
use Rattle.xv_io.specs.Io.{TookMore}
use Rattle.xv_report.proofs.Took.{line_of}
use Rattle.xv_report.proofs.image.write_side.Given as goal

-- the lines of the units before were taken
abbrev pub invariant-loop-unit : goal.invariant-loop-unit
invariant-loop-unit g l =
    TookMore (g.O.Sink.taken l.fn.sink) (g.O.Sink.taken l.sink) (flat_map (line_of l.fn.side l.fn.device.contents) (range_with_len 0 l.unit))
    × (g.O.Sink.faults l.sink ≡ g.O.Sink.faults l.fn.sink)

use Rattle.std.proofs.Common.{take, ◌≡◌}
use Rattle.std.specs.List.{flat_map}
use Rattle.xv_io.specs.Io.{TookMore}
use Rattle.xv_report.specs.Texts.{worker_row}
use Rattle.xv_report.proofs.report.write_workers.Given as goal

-- the lines of the workers before were taken
abbrev pub invariant-loop-count : goal.invariant-loop-count
invariant-loop-count g l =
    TookMore (g.O.Sink.taken l.fn.sink) (g.O.Sink.taken l.sink) (flat_map worker_row (take l.count-index l.counts))
    × (g.O.Sink.faults l.sink ≡ g.O.Sink.faults l.fn.sink)

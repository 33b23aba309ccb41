use Rattle.std.proofs.Common.{length, take, ◌-◌, ◌≤◌, ◌≡◌}
use Rattle.xv_base.specs.Hex.{hex}
use Rattle.xv_io.specs.Io.{TookMore}
use Rattle.xv_report.proofs.image.write_hex.Given as goal

-- the digits of the bytes up to `done` were taken
abbrev pub invariant-loop-done : goal.invariant-loop-done
invariant-loop-done g l =
    (l.done ≤ length l.bytes)
    × TookMore (g.O.Sink.taken l.fn.sink) (g.O.Sink.taken l.sink) (hex (take l.done l.bytes))
    × (g.O.Sink.faults l.sink ≡ g.O.Sink.faults l.fn.sink)

abbrev pub decreases-loop-done : goal.decreases-loop-done
decreases-loop-done g l = length l.bytes - l.done

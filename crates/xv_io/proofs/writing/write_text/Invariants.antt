use Rattle.std.proofs.Common.{◌≡◌, length, take, ◌-◌, ◌≤◌}
use Rattle.xv_io.specs.Io.{TookMore}
use Rattle.xv_io.proofs.writing.write_text.Given as goal

-- what was taken since the call began is the text up to `done`
abbrev pub invariant-loop-done : goal.invariant-loop-done
invariant-loop-done g l =
    (l.done ≤ length l.text)
    × TookMore (g.O.Sink.taken l.fn.sink) (g.O.Sink.taken l.sink) (take l.done l.text)
    × (g.O.Sink.faults l.sink ≡ g.O.Sink.faults l.fn.sink)

abbrev pub decreases-loop-done : goal.decreases-loop-done
decreases-loop-done g l = length l.text - l.done

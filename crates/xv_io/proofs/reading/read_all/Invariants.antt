use Rattle.std.proofs.Common.{◌≡◌, ◌≤◌, ◌<◌, vec_len, ◌-◌, length}
use Rattle.xv_io.specs.Io.{GaveFirst}
use Rattle.xv_io.proofs.reading.read_all.Given as goal

-- what was read so far came from the front of what was left when the call began
abbrev pub invariant-loop-bytes : goal.invariant-loop-bytes
invariant-loop-bytes g l =
    GaveFirst (g.I.Source.left l.fn.source) (g.I.Source.left l.source) l.bytes.items
    × (vec_len l.bytes ≤ l.most)
    × (0 < length l.buffer.items)
    × (g.I.Source.faults l.source ≡ g.I.Source.faults l.fn.source)

abbrev pub decreases-loop-bytes : goal.decreases-loop-bytes
decreases-loop-bytes g l = l.most - vec_len l.bytes

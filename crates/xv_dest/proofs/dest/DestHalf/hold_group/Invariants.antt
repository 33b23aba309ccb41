use Rattle.std.proofs.Common.{◌≡◌, take}
use Rattle.xv_dest.specs.Arrival.{with_group}
use Rattle.xv_dest.proofs.dest.DestHalf.hold_group.Given as goal

abbrev pub invariant-loop-i : goal.invariant-loop-i
invariant-loop-i g l = l.self ≡ with_group l.initial.self (take l.i l.streams.got)

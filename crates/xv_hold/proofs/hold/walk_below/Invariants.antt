use Rattle.xv_hold.proofs.Walk.{IsAt, left}
use Rattle.xv_hold.specs.Arrival.{in_slot}
use Rattle.xv_hold.proofs.hold.walk_below.Given as goal

abbrev pub invariant-loop-at : goal.invariant-loop-at
invariant-loop-at l = IsAt l.slots l.links l.head.unit.0 l.head.version l.at

abbrev pub decreases-loop-at : goal.decreases-loop-at
decreases-loop-at l = left l.head.version (in_slot l.slots l.at)

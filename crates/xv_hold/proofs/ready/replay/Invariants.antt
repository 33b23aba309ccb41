use Rattle.xv_hold.proofs.Matches.{IsReplayed}
use Rattle.xv_hold.proofs.ready.replay.Given as goal

abbrev pub invariant-loop-at : goal.invariant-loop-at
invariant-loop-at l = IsReplayed l.count l.fn.places l.places l.at

abbrev pub decreases-loop-at : goal.decreases-loop-at
decreases-loop-at l = l.at

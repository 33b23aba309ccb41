use Rattle.xv_dest.proofs.Arrivals.{none-held}
use Rattle.xv_dest.proofs.dest.DestHalf.hold_message.Goals as goal

pub arrive-requires-clause-not_held : goal.arrive-requires-clause-not_held
arrive-requires-clause-not_held g c = none-held c.self.inside.hold _ _ (rw (← c.self.view_is) at c.requires.not_held)

use Rattle.xv_model.proofs.Plays.Settled.{settled-applied, settled-last, settled-sides}
use Rattle.xv_model.proofs.play_laws.settled_units_are_up_to_date.Goals as goal

pub returns : goal.returns
returns c = record { written = settled-applied; recorded = settled-last; sides = settled-sides }

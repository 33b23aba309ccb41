use Rattle.xv_model.proofs.Window.{front-fits, front-unit, front-above, front-once, front-not_held}
use Rattle.xv_model.proofs.laws.front_group_fits.Goals as goal

pub returns : goal.returns
returns c = record { in_window = front-fits; units = front-unit; above_applied = front-above; once = front-once; not_held = front-not_held }

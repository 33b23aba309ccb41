use Rattle.xv_trace.proofs.Units.{act_within_units}
use Rattle.xv_trace.proofs.laws.programs_act_within_units.Goals as goal

pub returns : goal.returns
returns c = act_within_units

use Rattle.xv_trace.proofs.Units.{within_unit}
use Rattle.xv_trace.proofs.laws.operations_act_within_units.Goals as goal

pub returns : goal.returns
returns c = within_unit

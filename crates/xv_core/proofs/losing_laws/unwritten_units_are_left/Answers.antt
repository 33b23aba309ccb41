use Rattle.xv_core.proofs.Losing.{leaves-unwritten}
use Rattle.xv_core.proofs.losing_laws.unwritten_units_are_left.Goals as goal

pub returns : goal.returns
returns c = leaves-unwritten

use Rattle.xv_handover.proofs.Aborts.{step_right}
use Rattle.xv_handover.proofs.laws.aborts_have_number_zero.Goals as goal

pub returns : goal.returns
returns c = step_right

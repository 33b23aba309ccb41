use Rattle.xv_model.proofs.Kept.{step-holds}
use Rattle.xv_model.proofs.laws.step_keeps_the_view.Goals as goal

pub returns : goal.returns
returns c = step-holds

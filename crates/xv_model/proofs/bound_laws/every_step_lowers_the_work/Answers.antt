use Rattle.xv_model.proofs.Bound.Runs.{step-lowers}
use Rattle.xv_model.proofs.bound_laws.every_step_lowers_the_work.Goals as goal

pub returns : goal.returns
returns c = step-lowers

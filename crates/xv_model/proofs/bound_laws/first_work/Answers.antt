use Rattle.xv_model.proofs.Bound.Runs.{first-within}
use Rattle.xv_model.proofs.bound_laws.first_work.Goals as goal

pub returns : goal.returns
returns c = first-within

use Rattle.xv_model.proofs.Bound.Runs.{run-within}
use Rattle.xv_model.proofs.bound_laws.runs_are_bounded.Goals as goal

pub returns : goal.returns
returns c = run-within

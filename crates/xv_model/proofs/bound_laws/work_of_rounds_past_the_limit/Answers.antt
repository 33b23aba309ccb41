use Rattle.xv_model.proofs.Bound.WorkedJobs.{rounds_past-good}
use Rattle.xv_model.proofs.bound_laws.work_of_rounds_past_the_limit.Goals as goal

pub returns-clause-good : goal.returns-clause-good
returns-clause-good c = rounds_past-good

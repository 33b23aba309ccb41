use Rattle.xv_model.proofs.GoodJobs.{failed_destination-good}
use Rattle.xv_model.proofs.bound_laws.driven_to_a_failure.Goals as goal

pub returns-clause-good : goal.returns-clause-good
returns-clause-good c = failed_destination-good

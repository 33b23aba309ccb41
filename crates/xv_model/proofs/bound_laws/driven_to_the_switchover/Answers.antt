use Rattle.xv_model.proofs.GoodJobs.{switch_by_credit-good}
use Rattle.xv_model.proofs.bound_laws.driven_to_the_switchover.Goals as goal

pub returns-clause-good : goal.returns-clause-good
returns-clause-good c = switch_by_credit-good

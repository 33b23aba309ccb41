use Rattle.xv_model.proofs.Bound.WorkedJobs.{two_guests-good}
use Rattle.xv_model.proofs.bound_laws.work_of_two_guests_queue.Goals as goal

pub returns-clause-good : goal.returns-clause-good
returns-clause-good c = two_guests-good

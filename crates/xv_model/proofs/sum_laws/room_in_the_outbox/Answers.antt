use Rattle.xv_model.proofs.Sums.WorkedJobs.{room-good}
use Rattle.xv_model.proofs.sum_laws.room_in_the_outbox.Goals as goal

pub returns-clause-good : goal.returns-clause-good
returns-clause-good c = room-good

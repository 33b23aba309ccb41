use Rattle.xv_model.proofs.Ending.WorkedJob.{queued-good}
use Rattle.xv_model.proofs.ending_laws.cancelled_with_a_queue.Goals as goal

pub returns-clause-good : goal.returns-clause-good
returns-clause-good c = queued-good

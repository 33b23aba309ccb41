use Rattle.xv_model.proofs.Sums.WorkedJobs.{everywhere-good}
use Rattle.xv_model.proofs.sum_laws.versions_everywhere.Goals as goal

pub returns-clause-good : goal.returns-clause-good
returns-clause-good c = everywhere-good

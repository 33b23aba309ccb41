use Rattle.xv_script.proofs.Beginnings.{one_job_begins}
use Rattle.xv_script.proofs.laws.no_job_begins_another.Goals as goal

pub returns : goal.returns
returns c = one_job_begins

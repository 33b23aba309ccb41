use Rattle.xv_run.proofs.Beginnings.{job-cut, spelled-job-cut}
use Rattle.xv_run.proofs.laws.cut_jobs_are_unended.Goals as goal

pub returns : goal.returns
returns c = record { accepted = job-cut; spelled = spelled-job-cut }

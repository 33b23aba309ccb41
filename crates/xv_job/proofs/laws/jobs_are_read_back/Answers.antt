use Rattle.xv_job.proofs.Texts.{read_back}
use Rattle.xv_job.proofs.laws.jobs_are_read_back.Goals as goal

pub returns : goal.returns
returns c = λ w rest g. read_back w rest g

use Rattle.xv_job.proofs.Texts.{says_job}
use Rattle.xv_job.proofs.laws.texts_say_jobs.Goals as goal

pub returns : goal.returns
returns c = λ text h. says_job text h

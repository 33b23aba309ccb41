use Rattle.xv_job.proofs.Texts.{one_job}
use Rattle.xv_job.proofs.laws.texts_begin_with_one_job.Goals as goal

pub returns : goal.returns
returns c = λ v w a b g h e. one_job v w a b g h e

use Rattle.std.proofs.Common.{refl}
use Rattle.xv_job.proofs.laws.jobs_are_first_attempts.Goals as goal

pub returns : goal.returns
returns c = λ w. record { copy_is = refl; start_is = refl }

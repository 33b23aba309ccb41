use Rattle.std.proofs.Common.{refl}
use Rattle.xv_model.proofs.GoodJobs.{throttling-good}
use Rattle.xv_model.proofs.witnesses.throttling_is_a_good_run.Goals as goal

pub returns : goal.returns
returns c = record { good = throttling-good; events_fit = refl; a_run = refl; entries = refl }

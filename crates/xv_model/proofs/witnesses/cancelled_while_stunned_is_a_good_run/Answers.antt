use Rattle.std.proofs.Common.{refl}
use Rattle.xv_model.proofs.GoodJobs.{cancelled-good}
use Rattle.xv_model.proofs.witnesses.cancelled_while_stunned_is_a_good_run.Goals as goal

pub returns : goal.returns
returns c = record { good = cancelled-good; events_fit = refl; a_run = refl; entries = refl }

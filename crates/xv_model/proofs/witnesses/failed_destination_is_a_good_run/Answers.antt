use Rattle.std.proofs.Common.{refl}
use Rattle.xv_model.proofs.GoodJobs.{failed_destination-good}
use Rattle.xv_model.proofs.witnesses.failed_destination_is_a_good_run.Goals as goal

pub returns : goal.returns
returns c = record { good = failed_destination-good; events_fit = refl; a_run = refl; entries = refl }

use Rattle.std.proofs.Common.{refl}
use Rattle.xv_model.proofs.GoodJobs.{groups-good}
use Rattle.xv_model.proofs.witnesses.groups_are_a_good_run.Goals as goal

pub returns : goal.returns
returns c = record { good = groups-good; events_fit = refl; a_run = refl; entries = refl }

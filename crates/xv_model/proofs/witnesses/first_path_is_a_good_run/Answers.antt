use Rattle.std.proofs.Common.{refl}
use Rattle.xv_model.proofs.GoodJobs.{first_path-good}
use Rattle.xv_model.proofs.witnesses.first_path_is_a_good_run.Goals as goal

pub returns : goal.returns
returns c = record { good = first_path-good; events_fit = refl; a_run = refl; entries = refl }

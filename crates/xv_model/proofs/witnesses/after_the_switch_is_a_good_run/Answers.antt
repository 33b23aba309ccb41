use Rattle.std.proofs.Common.{refl}
use Rattle.xv_model.proofs.GoodJobs.{after_the_switch-good}
use Rattle.xv_model.proofs.witnesses.after_the_switch_is_a_good_run.Goals as goal

pub returns : goal.returns
returns c = record { good = after_the_switch-good; events_fit = refl; a_run = refl; entries = refl }

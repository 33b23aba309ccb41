use Rattle.std.proofs.Common.{refl}
use Rattle.xv_model.specs.Step.{play}
use Rattle.xv_model.specs.Worked.AfterTheSwitch.{after_the_switch_job, after_the_switch_events}
use Rattle.xv_model.proofs.GoodJobs.{after_the_switch-good}
use Rattle.xv_model.proofs.Kept.{run-holds}
use Rattle.xv_model.proofs.witnesses.contents_follow_the_history.Goals as goal

pub returns-clause-legal : goal.returns-clause-legal
returns-clause-legal c = λ guest. (run-holds after_the_switch_job (play after_the_switch_job after_the_switch_events) after_the_switch-good refl).history.legal guest

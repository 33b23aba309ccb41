use Rattle.xv_model.proofs.Kept.{run-holds}
use Rattle.xv_model.proofs.laws.every_run_holds.Goals as goal

pub returns : goal.returns
returns c = run-holds

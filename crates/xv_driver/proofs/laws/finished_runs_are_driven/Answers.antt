use Rattle.xv_driver.proofs.Following.{is-driven}
use Rattle.xv_driver.proofs.laws.finished_runs_are_driven.Goals as goal

pub returns : goal.returns
returns c = is-driven

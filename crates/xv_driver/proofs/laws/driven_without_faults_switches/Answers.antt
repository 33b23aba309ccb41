use Rattle.xv_driver.proofs.Switching.{ends-switched}
use Rattle.xv_driver.proofs.laws.driven_without_faults_switches.Goals as goal

pub returns : goal.returns
returns c = ends-switched

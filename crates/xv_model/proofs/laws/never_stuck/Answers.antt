use Rattle.xv_model.proofs.NeverStuck.{never_stuck}
use Rattle.xv_model.proofs.Drivers.{some_acts_any, driver_some}
use Rattle.xv_model.proofs.laws.never_stuck.Goals as goal

pub returns : goal.returns
returns c = record { some_goes_on = λ job v good inv unfinished. some_acts_any job v (never_stuck job v good inv unfinished); driver_finds = driver_some }

use Rattle.xv_model.proofs.Finished.{finished-waits, driver_none, none_finished}
use Rattle.xv_model.proofs.laws.finished_means_nothing_goes_on.Goals as goal

pub returns : goal.returns
returns c = record { all_wait = finished-waits; driver_stops = driver_none; only_there = none_finished }

use Rattle.xv_model.proofs.Plays.Unwritten.{unwritten-run}
use Rattle.xv_model.proofs.play_laws.unwritten_units_stay_over_runs.Goals as goal

pub returns : goal.returns
returns c = unwritten-run

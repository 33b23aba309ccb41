use Rattle.xv_model.proofs.Plays.Played.{play-runs, play-faithful, play-fits}
use Rattle.xv_model.proofs.play_laws.plays_are_faithful_runs.Goals as goal

pub returns : goal.returns
returns c = record { runs = play-runs; faithful = play-faithful; fitting = play-fits }

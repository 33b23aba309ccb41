use Rattle.xv_model.proofs.Growth.Runs.{run-parts, run-numbers_within}
use Rattle.xv_model.proofs.growth_laws.numbers_make_up_the_journal.Goals as goal

pub returns : goal.returns
returns c = record { parts = run-parts; within = run-numbers_within }

use Rattle.xv_run.proofs.Beginnings.{nothing-behind, one-beginning}
use Rattle.xv_run.proofs.laws.no_input_of_run_begins_another.Goals as goal

pub returns : goal.returns
returns c = record { accepted = nothing-behind; jobs = one-beginning }

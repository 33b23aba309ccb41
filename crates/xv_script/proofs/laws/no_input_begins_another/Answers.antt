use Rattle.xv_script.proofs.Beginnings.{one_input_begins}
use Rattle.xv_script.proofs.laws.no_input_begins_another.Goals as goal

pub returns : goal.returns
returns c = one_input_begins

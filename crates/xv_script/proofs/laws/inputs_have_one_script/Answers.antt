use Rattle.xv_script.proofs.Ends.{one-script}
use Rattle.xv_script.proofs.laws.inputs_have_one_script.Goals as goal

pub returns : goal.returns
returns c = one-script

use Rattle.xv_handover.proofs.Beginnings.{one_beginning}
use Rattle.xv_handover.proofs.laws.no_script_begins_another.Goals as goal

pub returns : goal.returns
returns c = one_beginning

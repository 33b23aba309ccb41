use Rattle.xv_top.proofs.Fronts.{input-cut, spelled-input-cut}
use Rattle.xv_top.proofs.laws.cut_inputs_are_unended.Goals as goal

pub returns : goal.returns
returns c = record { accepted = input-cut; spelled = spelled-input-cut }

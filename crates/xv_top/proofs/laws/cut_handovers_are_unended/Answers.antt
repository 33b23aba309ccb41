use Rattle.xv_top.proofs.Fronts.{handover-cut, spelled-handover-cut}
use Rattle.xv_top.proofs.laws.cut_handovers_are_unended.Goals as goal

pub returns : goal.returns
returns c = record { accepted = handover-cut; spelled = spelled-handover-cut }

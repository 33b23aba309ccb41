use Rattle.xv_handover.proofs.Beginnings.{cut-short, script-cut-short}
use Rattle.xv_handover.proofs.laws.cut_scripts_are_unended.Goals as goal

pub returns : goal.returns
returns c = record { accepted = cut-short; spelled = script-cut-short }

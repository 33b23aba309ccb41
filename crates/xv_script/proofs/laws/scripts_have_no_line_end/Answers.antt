use Rattle.xv_script.proofs.Ends.{no-end}
use Rattle.xv_script.proofs.laws.scripts_have_no_line_end.Goals as goal

pub returns : goal.returns
returns c = no-end

use Rattle.xv_top.proofs.Inputs.{lines-read}
use Rattle.xv_top.proofs.laws.answered_lines_are_those_read.Goals as goal

pub returns : goal.returns
returns c = lines-read

use Rattle.xv_trace.proofs.OpLines.{says_op}
use Rattle.xv_trace.proofs.laws.lines_say_operations.Goals as goal

pub returns : goal.returns
returns c = says_op

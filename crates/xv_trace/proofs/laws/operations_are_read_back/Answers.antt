use Rattle.xv_trace.proofs.OpLines.{read_back}
use Rattle.xv_trace.proofs.laws.operations_are_read_back.Goals as goal

pub returns : goal.returns
returns c = read_back

use Rattle.xv_trace.proofs.Counts.{length-all_unit_operations}
use Rattle.xv_trace.proofs.laws.unit_operations_are_counted.Goals as goal

pub returns : goal.returns
returns c = length-all_unit_operations

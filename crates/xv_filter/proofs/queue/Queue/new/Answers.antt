use Rattle.std.proofs.Common.{arith}
use Rattle.xv_filter.proofs.Joining.{none}
use Rattle.xv_filter.proofs.queue.Queue.new.Goals as goal

pub invariant_of-result : goal.invariant_of-result
invariant_of-result c = (omega arith, none)

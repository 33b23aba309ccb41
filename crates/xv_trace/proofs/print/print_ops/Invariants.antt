use Rattle.std.proofs.Common.{◌≡◌, ◌++◌, take}
use Rattle.xv_trace.specs.OpText.{ops_text}
use Rattle.xv_trace.proofs.print.print_ops.Given as goal

abbrev pub invariant-loop-op : goal.invariant-loop-op
invariant-loop-op l = l.out.items ≡ l.initial.out.items ++ ops_text (take l.op-index l.op-items)

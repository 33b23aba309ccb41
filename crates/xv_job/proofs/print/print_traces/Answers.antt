use Rattle.std.proofs.Common.{arith}
use Rattle.xv_job.proofs.Printed.{traces_written}
use Rattle.xv_job.proofs.print.print_traces.Goals as goal

pub returns : goal.returns
returns c = traces_written c.args.traces.now c.loop-trace.trace-index c.loop-trace.out.items c.args.out.now.items (omega arith) c.loop-trace.invariant

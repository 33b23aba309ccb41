use Rattle.std.proofs.Common.{◌-◌, arith}
use Rattle.xv_job.proofs.Taken.{op_pushed, on_ok}
use Rattle.xv_job.proofs.traces.push_op.Goals as goal

pub returns-clause-is : goal.returns-clause-is
returns-clause-is c =
    on_ok c.push.result _ _
    (λ h. op_pushed c.args.traces.now.items (c.len-last.result - 1) c.push.new.self c.index_mut-trace.result.now c.args.op c.requires.some (omega arith) c.index_mut-trace.ensures.value h)
    c.push.ensures.ok

use Rattle.std.proofs.Common.{ap, arith}
use Rattle.xv_trace.specs.OpText.{Program}
use Rattle.xv_trace.specs.Operations.{op_count, count_all}
use Rattle.xv_job.proofs.MadeCount.{count_few}
use Rattle.xv_job.proofs.MadeOps.{op_few}
use Rattle.xv_job.proofs.MadeParts.{op_acts, ops_more}
use Rattle.xv_job.proofs.made.trace.Goals as goal

pub push-requires-clause-good : goal.push-requires-clause-good
push-requires-clause-good c =
    op_acts c.args.number c.args.guest c.loop-index.index c.args.layout.now c.loop-index.trace c.operation.result c.loop-index.invariant c.requires.machine c.operation.ensures c.requires.guest

pub push-requires-clause-room : goal.push-requires-clause-room
push-requires-clause-room c =
    let before = ap (λ (p : Program). count_all p.ops) c.loop-index.invariant in
    let more = ap op_count c.operation.ensures in
    omega (arith, before, more, count_few c.args.number c.args.guest c.loop-index.index, op_few c.args.number c.args.guest c.loop-index.index)

pub loop-index-preserved : goal.loop-index-preserved
loop-index-preserved c =
    ops_more c.args.number c.args.guest c.loop-index.index c.args.layout.now c.loop-index.trace c.push.new.self c.operation.result c.loop-index.invariant c.operation.ensures c.in_ok-push.ensures.ok

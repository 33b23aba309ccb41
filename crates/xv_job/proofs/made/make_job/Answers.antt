use Rattle.std.proofs.Common.{sym, subst}
use Rattle.xv_job.specs.Written.{IsGoodWritten}
use Rattle.xv_job.proofs.MadeGood.{made_good}
use Rattle.xv_job.proofs.MadeParts.{made_of, made_operations}
use Rattle.xv_job.proofs.made.make_job.Goals as goal

pub invariant_of-result : goal.invariant_of-result
invariant_of-result c =
    let is = made_of c.args.number c.layout-layout.result c.config.result c.new.result.items c.in_ok-init.init.items c.in_ok-traces.traces.items c.layout-layout.ensures c.config.ensures c.new.ensures.items c.in_ok-init.ensures c.in_ok-traces.ensures.held in
    (subst IsGoodWritten (sym is) (made_good c.args.number), c.in_ok-traces.ensures.machine)

pub returns-clause-made : goal.returns-clause-made
returns-clause-made c =
    made_of c.args.number c.layout-layout.result c.config.result c.new.result.items c.in_ok-init.init.items c.in_ok-traces.traces.items c.layout-layout.ensures c.config.ensures c.new.ensures.items c.in_ok-init.ensures c.in_ok-traces.ensures.held

pub returns-clause-operations : goal.returns-clause-operations
returns-clause-operations c =
    made_operations c.args.number _ (made_of c.args.number c.layout-layout.result c.config.result c.new.result.items c.in_ok-init.init.items c.in_ok-traces.traces.items c.layout-layout.ensures c.config.ensures c.new.ensures.items c.in_ok-init.ensures c.in_ok-traces.ensures.held)

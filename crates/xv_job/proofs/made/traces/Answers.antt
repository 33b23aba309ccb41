use Rattle.xv_job.specs.Made.{first_ops}
use Rattle.xv_job.proofs.MadeParts.{traces_more, machine_more}
use Rattle.xv_job.proofs.made.traces.Goals as goal

pub loop-guest-preserved : goal.loop-guest-preserved
loop-guest-preserved c = record {
  held = traces_more c.args.number c.loop-guest.guest c.operations_each.result c.args.layout.now c.loop-guest.traces.items c.push.new.self.items c.in_ok-trace.trace c.loop-guest.invariant.held c.operations_each.ensures.is c.in_ok-trace.ensures c.in-Ok.ensures.items;
  machine = machine_more c.args.layout.now c.loop-guest.traces.items c.push.new.self.items c.in_ok-trace.trace (first_ops c.args.number c.loop-guest.guest c.operations_each.result) c.loop-guest.invariant.machine c.in_ok-trace.ensures c.in-Ok.ensures.items;
}

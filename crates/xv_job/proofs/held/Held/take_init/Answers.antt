use Rattle.std.proofs.Common.{arith, refl, ap}
use Rattle.xv_base.specs.Units.{units}
use Rattle.xv_job.specs.Held.{job_held}
use Rattle.xv_job.proofs.Taken.{init_said, init_after}
use Rattle.xv_job.proofs.Taken.{init_passes}
use Rattle.xv_job.proofs.held.Held.take_init.Goals as goal

pub returns-in-Ok-push-clause-taken : goal.returns-in-Ok-push-clause-taken
returns-in-Ok-push-clause-taken c =
    record {
      no_fault = init_passes (job_held c.args.self.now) c.args.args.now c.in-Ok.row c.number-unit.result c.in-Ok.ensures.no_fault c.in-Ok.ensures.values c.number-unit.ensures (omega (arith, c.units.ensures.exactly, ap units c.known.ensures.is)) (omega (arith, c.requires.consistent.after_last));
      said = init_said (job_held c.args.self.now) c.args.args.now c.in-Ok.row c.number-unit.result c.pattern.result c.push.new.self.items c.in-Ok.ensures.values c.number-unit.ensures c.pattern.ensures c.in-Ok-push.ensures.items;
      consistent = record { disks = c.requires.consistent.disks; shapes = c.requires.consistent.shapes; operations = c.requires.consistent.operations; after_last = init_after c.args.self.now.init.items c.push.new.self.items _ c.number-unit.result c.in-Ok-push.ensures.items refl };
      last = refl;
    }

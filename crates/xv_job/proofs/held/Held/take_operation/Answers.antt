use Rattle.std.proofs.Common.{refl, Some}
use Rattle.xv_job.specs.Held.{job_held}
use Rattle.xv_job.proofs.Taken.{op_tested}
use Rattle.xv_job.proofs.held.Held.take_operation.Goals as goal

pub returns-in-Err-clause-stopped : goal.returns-in-Err-clause-stopped
returns-in-Err-clause-stopped c =
    op_tested (job_held c.args.self.now) c.known-layout.result c.args.self.now.operations _ c.args.verb c.args.args.now (Some c.in-Err.why) c.known-layout.ensures.is c.requires.consistent.operations c.requires.few refl c.in-Err.ensures.fault

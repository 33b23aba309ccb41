use Rattle.std.proofs.Common.{ap, ◌∙◌}
use Rattle.xv_device.specs.Memory.{Device}
use Rattle.xv_job.specs.Written.{job_of}
use Rattle.xv_core.proofs.Beginning.InMemory.{begins-with}
use Rattle.xv_parts.specs.Plans.{source_plan}
use Rattle.xv_parts.proofs.beginning.make_devices.Goals as goal

pub returns-clause-source_begins : goal.returns-clause-source_begins
returns-clause-source_begins c = ap (λ (d : Device). d.contents) c.in_ok-source.ensures.begun ∙ begins-with (job_of c.args.job.now) (source_plan c.args.job.now.faults)

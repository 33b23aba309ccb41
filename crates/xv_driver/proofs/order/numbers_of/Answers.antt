use Rattle.std.proofs.Common.{ap, ◌∙◌, length}
use Rattle.xv_job.specs.Written.{Written}
use Rattle.xv_driver.proofs.order.numbers_of.Goals as goal

pub returns-clause-of_job : goal.returns-clause-of_job
returns-clause-of_job c = record {
  each_guest = c.guests.ensures.exactly;
  each_disk = c.disks.ensures.exactly ∙ ap (λ (w : Written). length w.shape.disks) c.job.view_is;
  each_stream = ap (λ (w : Written). w.config.streams) c.job.view_is;
}

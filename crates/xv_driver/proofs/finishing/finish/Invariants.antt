use Rattle.std.proofs.Common.{◌≡◌, ◌+◌, ◌-◌, length}
use Rattle.xv_model.specs.Work.{bound}
use Rattle.xv_job.specs.Written.{job_of}
use Rattle.xv_core.specs.Keeping.{IsKept}
use Rattle.xv_driver.specs.Driven.{AreDriven}
use Rattle.xv_driver.proofs.finishing.finish.Given as goal

-- so far the driver made the steps, once it is known that what every migration keeps holds after the last, which `next` tells
abbrev pub invariant-loop-event : goal.invariant-loop-event
invariant-loop-event g l = record {
  driven : IsKept l.migration → AreDriven l.grown l.initial.migration l.migration;
  grew : length l.migration.journal ≡ length l.initial.migration.journal + l.grown;
  job : l.migration.job ≡ l.initial.migration.job;
}

abbrev pub decreases-loop-event : goal.decreases-loop-event
decreases-loop-event g l = bound (job_of l.migration.job) - length l.migration.journal

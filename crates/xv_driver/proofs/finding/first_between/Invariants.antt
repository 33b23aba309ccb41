use Rattle.std.proofs.Common.{◌≡◌, take, drop}
use Rattle.xv_model.specs.Driver.{driver_events, first_able}
use Rattle.xv_job.specs.Written.{job_of}
use Rattle.xv_core.specs.Seen.{view_of}
use Rattle.xv_driver.proofs.finding.first_between.Given as goal

abbrev pub invariant-loop-index : goal.invariant-loop-index
invariant-loop-index g l =
    first_able (job_of l.migration.job) (view_of l.migration) (drop l.first (take l.end (driver_events (job_of l.migration.job))))
    ≡ first_able (job_of l.migration.job) (view_of l.migration) (drop l.index (take l.end (driver_events (job_of l.migration.job))))

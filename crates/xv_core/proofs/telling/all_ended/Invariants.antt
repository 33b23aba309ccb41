use Rattle.std.proofs.Common.{◌≡◌, ◌<◌, ℕ, true, length}
use Rattle.std.specs.Prelude.{nat_le}
use Rattle.xv_model.specs.Job.{trace}
use Rattle.xv_model.specs.Guest.{ended}
use Rattle.xv_job.specs.Written.{job_of}
use Rattle.xv_core.proofs.telling.all_ended.Given as goal

abbrev pub invariant-loop-guest : goal.invariant-loop-guest
invariant-loop-guest l = (k : ℕ) → k < l.guest → nat_le (length (trace (job_of l.job) k)) (ended l.history.entries k) ≡ true

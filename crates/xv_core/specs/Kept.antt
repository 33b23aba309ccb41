-- All that the parts of a migration keep, and its fields as these parts.
use Rattle.std.specs.Prelude.{◌≡◌, ℕ, length}
use Rattle.xv_base.specs.declared.limits.TheConstants.{MOST_PATTERN}
use Rattle.xv_model.specs.Job.{operation_count, unit_count}
use Rattle.xv_model.specs.Work.{bound}
use Rattle.xv_job.specs.Written.{Written, job_of}
use Rattle.xv_core.specs.Reads.{read_lengths}
use Rattle.xv_core.specs.State.{State, seen_of, IsRunning, IsCarriedOver}
use Rattle.xv_core.specs.Counting.{CountsFit, FlagsAreCaused}
use Rattle.xv_core.specs.Plans.{FollowsPlans, ArePieces}

pub record IsState (s : State) : Type 0 where
  pub running : IsRunning s
  pub carried : IsCarriedOver s.streams s.back
  pub source_numbers : length s.source.told.writes ≡ unit_count (job_of s.job)
  pub dest_numbers : length s.dest.told.writes ≡ unit_count (job_of s.job)
  pub counts : CountsFit (seen_of s)
  pub caused : FlagsAreCaused (seen_of s)
  pub pieces : ArePieces s
  pub plans : FollowsPlans (seen_of s)

-- memory for all that the run needs, from its start to its end: no list of the run ever grows past the entries of the
-- history and of the journal, the bytes of reads, and the bytes of one read that were taken for it
pub record HasRooms (job : Written) (history_room journal_room reads_room read_room : ℕ) : Type 0 where
  pub history : history_room ≡ operation_count (job_of job)
  pub journal : journal_room ≡ bound (job_of job)
  pub reads : reads_room ≡ read_lengths (job_of job)
  pub read : read_room ≡ MOST_PATTERN

-- That no write of a guest is lost, said of what the devices tell and what the guests read, by the story of the journal: the
-- machine and its runs are not spoken of.
use Rattle.std.specs.Prelude.{◌≡◌, ◌≤◌, ◌<◌, ℕ, true, false, List, length, Some, if◌then◌else◌}
use Rattle.xv_base.specs.declared.answer.Entry.{Entry}
use Rattle.xv_model.specs.Job.{Job, unit_count, trace}
use Rattle.xv_model.specs.Guest.{ended, content, reads, read_bytes}
use Rattle.xv_model.specs.Contents.{unit_content}
use Rattle.xv_model.specs.Story.{Story, story_of, was_written}
use Rattle.xv_job.specs.Written.{job_of}
use Rattle.xv_core.specs.Seen.{Seen, OnDevice}
use Rattle.xv_core.specs.Keeping.{told_contents}

-- the device that the guest is on
abbrev pub owner : Story → Seen → OnDevice
owner s m = if s.switched then m.dest else m.source

-- of each unit a device holds what the unmigrated guest does after the first n operations that ended
abbrev pub HasGuest : Story → Seen → OnDevice → ℕ → Type 0
HasGuest s m device n =
    (unit : ℕ) → unit < unit_count (job_of m.job) → unit_content (told_contents device) unit ≡ content (job_of m.job) s.history unit n

-- the guest was stopped, and the source holds what the unmigrated guest did then
pub record HasGuestAtStun (s : Story) (m : Seen) : Type 0 where
  pub n : ℕ
  pub at : s.stun ≡ Some n
  pub source : HasGuest s m m.source n

-- a destination unit is the unmigrated guest's after some beginning of the operations that ended
pub record IsBehind (s : Story) (m : Seen) (unit : ℕ) : Type 0 where
  pub n : ℕ
  pub within : n ≤ length s.history
  pub is : unit_content (told_contents m.dest) unit ≡ content (job_of m.job) s.history unit n

-- No guest ended more operations than it has; an operation that ended is its guest's next, so they ended in the guest's own order,
-- none twice. The device that the guest is on holds, of each unit, what the unmigrated guest does after all of them, and what was
-- read is what the unmigrated guest reads. Once it has switched, the source stays as it was at the stun. Until then each unit
-- that was written on the destination is behind.
pub record LosesNothingBy (s : Story) (m : Seen) : Type 0 where
  pub in_order : (guest : ℕ) → ended s.history guest ≤ length (trace (job_of m.job) guest)
  pub holds : HasGuest s m (owner s m) (length s.history)
  pub reads : m.reads ≡ reads (job_of m.job) s.history (length s.history)
  pub stunned : s.switched ≡ true → HasGuestAtStun s m
  pub behind : (unit : ℕ) → unit < unit_count (job_of m.job) → s.switched ≡ false → was_written s unit ≡ true → IsBehind s m unit

abbrev pub story : Seen → Story
story m = story_of (job_of m.job) m.journal

abbrev pub LosesNothing : Seen → Type 0
LosesNothing m = LosesNothingBy (story m) m

-- Until the switchover a destination unit that was not written is as it was.
pub record LeavesUnwritten (start m : Seen) : Type 0 where
  pub units : (unit : ℕ) → (story m).switched ≡ false → was_written (story m) unit ≡ false → unit_content (told_contents m.dest) unit ≡ unit_content (told_contents start.dest) unit

-- the bytes that the unmigrated guest reads where a journal has gone on by at most one entry: none where no read was done
abbrev pub read_between : Job → List Entry → List Entry → List ℕ
read_between job before after = read_bytes job (story_of job after).history (length (story_of job before).history)

-- What every migration keeps, as contracts see it.
use Rattle.std.specs.Prelude.{◌≡◌, ◌<◌, ℕ, ◌+◌, ◌&&◌, Bool, true, List, [], ◌++◌, length, map, unwrap_or, is_some}
use Rattle.std.specs.List.{list_all, range_with_len}
use Rattle.xv_frame.specs.Frame.{Message, AckFrame, message, all_spelled}
use Rattle.xv_streams.specs.Carried.{frames_of}
use Rattle.xv_model.specs.Job.{Job, IsGoodJob, unit_count}
use Rattle.xv_model.specs.Guest.{reads}
use Rattle.xv_model.specs.View.{View, UnitHead, disk, is_live, stream}
use Rattle.xv_model.specs.Wait.{fits}
use Rattle.xv_model.specs.Effect.{cursor_unit}
use Rattle.xv_model.specs.Step.{is_run}
use Rattle.xv_model.specs.Report.{source_content, dest_length, is_written}
use Rattle.xv_model.specs.Guest.{content}
use Rattle.xv_model.specs.Contents.{unit_content, message_content}
use Rattle.xv_model.specs.Invariant.{IsViewOf}
use Rattle.xv_job.specs.Written.{job_of}
use Rattle.xv_core.specs.Seen.{Seen, OnDevice, view_of, wire}
use Rattle.xv_core.specs.Counting.{CountsFit, FlagsAreCaused}
use Rattle.xv_core.specs.Plans.{FollowsPlans}

-- what a device tells that it holds, nothing where it does not tell
abbrev pub told_contents : OnDevice → List (List ℕ)
told_contents d = unwrap_or d.told.contents []

abbrev pub tells : OnDevice → Bool
tells d = is_some d.told.contents

-- the messages of a stream with the contents that the unmigrated guest had when they were made
abbrev pub guest_message : Job → View → UnitHead → Message
guest_message job v m = message m (message_content job v.history m)

abbrev pub guest_messages : Job → View → ℕ → List (List Message)
guest_messages job v s = map (map (guest_message job v)) (stream v s)

-- the blocks read of a disk's region, as the unmigrated guest has them after the whole history
abbrev pub guest_blocks : Job → View → ℕ → List (List ℕ)
guest_blocks job v d = map (λ k. content job v.history (cursor_unit job v d + k) (length v.history)) (range_with_len 0 (disk v d).got)

-- Where both devices tell what they hold: the source holds the whole history of the guest until the switchover, and
-- afterwards that at the stun; the destination, of each unit that was written, the guest after its recorded beginning, and
-- after the switchover after all of it; each message, in the outbox, on a wire as its spelling, or held, the guest after its
-- own beginning; the blocks read of a region the guest after all; and the bytes read are the unmigrated guest's.
pub record HoldsGuest (m : Seen) : Type 0 where
  pub source : (unit : ℕ) → unit < unit_count (job_of m.job) → unit_content (told_contents m.source) unit ≡ source_content (job_of m.job) (view_of m) unit
  pub dest : (unit : ℕ) → unit < unit_count (job_of m.job) → is_written (view_of m) unit ≡ true → unit_content (told_contents m.dest) unit ≡ content (job_of m.job) (view_of m).history unit (dest_length (view_of m) unit)
  pub regions : m.regions ≡ map (guest_blocks (job_of m.job) (view_of m)) (range_with_len 0 (length (job_of m.job).copy.disks))
  pub outbox : m.outbox ≡ map (message_content (job_of m.job) (view_of m).history) (view_of m).outbox.messages
  pub held : m.held ≡ map (message_content (job_of m.job) (view_of m).history) (view_of m).hold.held
  pub wires : (s : ℕ) → s < (job_of m.job).config.streams → (wire m s).gathered ++ (wire m s).told.transit ≡ all_spelled (frames_of (job_of m.job).format (guest_messages (job_of m.job) (view_of m) s))
  pub reads : m.reads ≡ reads (job_of m.job) (view_of m).history (length (view_of m).history)

-- the journal is a run of the job, the view that it ends in meets the view invariant, the contents hold where both devices
-- tell them, both devices have the job's layout, the way back has the acknowledgements, bytes are gathered only where a take
-- has failed, and what is counted and planned agrees with the journal
pub record IsKept (m : Seen) : Type 0 where
  pub good : IsGoodJob (job_of m.job)
  pub fitting : list_all (λ e. fits (job_of m.job) e.event) m.journal ≡ true
  pub is_run : is_run (job_of m.job) m.journal ≡ true
  pub view : IsViewOf (job_of m.job) (view_of m)
  pub contents : (tells m.source && tells m.dest) ≡ true → HoldsGuest m
  pub source_layout : m.source.told.shape ≡ (job_of m.job).shape
  pub dest_layout : m.dest.told.shape ≡ (job_of m.job).shape
  pub way_back : m.back.gathered ++ m.back.told.transit ≡ all_spelled (map AckFrame (view_of m).acks)
  pub gathered : (s : ℕ) → is_live (view_of m).phase ≡ true → (wire m s).gathered ≡ []
  pub gathered_back : is_live (view_of m).phase ≡ true → m.back.gathered ≡ []
  pub counts : CountsFit m
  pub caused : FlagsAreCaused m
  pub plans : FollowsPlans m

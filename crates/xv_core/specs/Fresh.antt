-- The parts of a migration that is about to begin, and the memory that was taken for it.
use Rattle.std.specs.Prelude.{◌≡◌, ℕ, List, [], length}
use Rattle.xv_model.specs.Job.{IsGoodJob}
use Rattle.xv_model.specs.Step.{Entry}
use Rattle.xv_job.specs.Written.{Written, job_of}
use Rattle.xv_frame.specs.Frame.{Each}
use Rattle.xv_guest.specs.Log.{Log}
use Rattle.xv_streams.specs.Streamed.{Streamed, LaneSeen}
use Rattle.xv_streams.specs.Returned.{Returned}
use Rattle.xv_source.specs.Half.{Source}
use Rattle.xv_source.specs.Limits.{fresh as fresh_source}
use Rattle.xv_dest.specs.Half.{Dest, fresh as fresh_dest}
use Rattle.xv_core.specs.Kept.{HasRooms}
use Rattle.xv_core.specs.Beginning.{IsDeviceFor, BeginsWithJob, IsWireFor, stream_room, back_room}

-- the lists that a run fills are empty, and there is room for all that it enters
pub record IsReady (job : Written) (history : Log) (journal : List Entry) (reads : List ℕ) (journal_room reads_room read_room : ℕ) : Type 0 where
  pub good : IsGoodJob (job_of job)
  pub none_ended : history.entries ≡ []
  pub none_entered : journal ≡ []
  pub none_read : reads ≡ []
  pub rooms : HasRooms job history.room journal_room reads_room read_room

-- a stream on which nothing is
pub record IsFreshLane (room : ℕ) (l : LaneSeen) : Type 0 where
  pub groups : l.groups ≡ []
  pub gathered : l.gathered ≡ []
  pub wire : IsWireFor room l.wire

-- the halves of a job, the streams and the way back, to which nothing has happened
pub record AreFresh (job : Written) (source : Source) (dest : Dest) (streams : Streamed) (back : Returned) : Type 0 where
  pub source_half : source ≡ fresh_source job.shape job.config source.told source.faults
  pub source_device : IsDeviceFor (job_of job) source.told
  pub first : BeginsWithJob (job_of job) source.told
  pub dest_half : dest ≡ fresh_dest job.shape job.config.credit dest.told dest.faults
  pub dest_device : IsDeviceFor (job_of job) dest.told
  pub layout : streams.shape ≡ job.shape
  pub format : streams.format ≡ job.format
  pub none_made : streams.making ≡ []
  pub each_stream : length streams.lanes ≡ job.config.streams
  pub lanes : Each (IsFreshLane (stream_room (job_of job))) streams.lanes
  pub counts : back.counts ≡ []
  pub gathered : back.gathered ≡ []
  pub back_wire : IsWireFor (back_room (job_of job)) back.wire

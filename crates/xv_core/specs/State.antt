-- The parts of a migration as plain values, and how they show a view and its contents: what only proofs need, the mark and
-- the first `at`, is nowhere in them.
use Rattle.std.specs.Prelude.{◌≡◌, ◌≤◌, ◌<◌, ℕ, ◌*◌, ◌&&◌, Bool, true, List, [], length, map, Option, unwrap_or, is_some}
use Rattle.std.specs.List.{list_all}
use Rattle.xv_model.specs.Job.{Job, IsGoodJob}
use Rattle.xv_model.specs.Guest.{Ended, reads}
use Rattle.xv_model.specs.View.{View, Phase}
use Rattle.xv_model.specs.Wait.{fits}
use Rattle.xv_model.specs.Step.{Entry, run, is_run}
use Rattle.xv_model.specs.Contents.{Contents, HoldsContents}
use Rattle.xv_job.specs.Written.{Written, job_of}
use Rattle.xv_frame.specs.Frame.{Each}
use Rattle.xv_frame.specs.declared.codes.TheConstants.{HEAD_SIZE}
use Rattle.xv_streams.specs.Streamed.{Streamed, LaneSeen, lane}
use Rattle.xv_streams.specs.Carried.{most_bytes, IsCarried}
use Rattle.xv_streams.specs.Fronts.{heads_on, contents_on}
use Rattle.xv_streams.specs.Returned.{Returned, AreCarried}
use Rattle.xv_source.specs.Half.{Source}
use Rattle.xv_dest.specs.Half.{Dest}
use Rattle.xv_core.specs.Seen.{Seen, OnDevice, OnWire}

pub record State : Type 0 where
  pub job : Written
  pub journal : List Entry
  pub history : List Ended
  pub phase : Phase
  pub stun : Option ℕ
  pub source : Source
  pub dest : Dest
  pub streams : Streamed
  pub back : Returned
  pub reads : List ℕ

abbrev pub state_of : Written → List Entry → List Ended → Phase → Option ℕ → Source → Dest → Streamed → Returned → List ℕ → State
state_of job journal history phase stun source dest streams back reads = record {
  job = job;
  journal = journal;
  history = history;
  phase = phase;
  stun = stun;
  source = source;
  dest = dest;
  streams = streams;
  back = back;
  reads = reads;
}

-- the view that it stands in
abbrev pub view : State → View
view s = run (job_of s.job) s.journal

-- a view with all that the parts have of it
abbrev pub shown : State → View → View
shown s v = record {
  history = s.history;
  stun = s.stun;
  mark = v.mark;
  phase = s.phase;
  disks = s.source.disks;
  dirty = s.source.dirty;
  to_send = s.source.to_send;
  rounds = s.source.rounds;
  outbox = record { messages = s.source.messages; issued = s.source.issued; first = v.outbox.first };
  streams = heads_on s.streams.lanes;
  hold = record { held = s.dest.held; applied = s.dest.applied; recorded = s.dest.recorded };
  credit = s.source.credit;
  freed = s.dest.freed;
  acks = s.back.counts;
}

-- whether both devices tell what they hold, and the contents that the parts have then
abbrev pub both_tell : State → Bool
both_tell s = is_some s.source.told.contents && is_some s.dest.told.contents

abbrev pub contents_of : State → Contents
contents_of s = record {
  source = unwrap_or s.source.told.contents [];
  dest = unwrap_or s.dest.told.contents [];
  regions = s.source.regions;
  outbox = s.source.contents;
  streams = contents_on s.streams.lanes;
  held = s.dest.contents;
  reads = s.reads;
}

-- the devices and the wires
abbrev pub on_source : Source → OnDevice
on_source h = record { told = h.told; faults = h.faults }

abbrev pub on_dest : Dest → OnDevice
on_dest h = record { told = h.told; faults = h.faults }

abbrev pub on_wire : LaneSeen → OnWire
on_wire l = record { gathered = l.gathered; told = l.wire; faults = l.faults }

abbrev pub on_back : Returned → OnWire
on_back r = record { gathered = r.gathered; told = r.wire; faults = r.faults }

-- what contracts see of the parts
abbrev pub seen_of : State → Seen
seen_of s = record {
  job = s.job;
  journal = s.journal;
  reads = s.reads;
  regions = s.source.regions;
  outbox = s.source.contents;
  held = s.dest.contents;
  source = on_source s.source;
  dest = on_dest s.dest;
  wires = map on_wire s.streams.lanes;
  back = on_back s.back;
}

-- the parts are of this job: its layout, what is copied of it, its limits and its format are theirs, and the wires have room for all
-- credit
pub record ArePartsOf (job : Job) (source : Source) (dest : Dest) (streams : Streamed) (back : Returned) : Type 0 where
  pub source_shape : source.shape ≡ job.shape
  pub source_copy : source.shape ≡ job.copy
  pub source_limits : source.config ≡ job.config
  pub source_layout : source.told.shape ≡ job.shape
  pub dest_shape : dest.shape ≡ job.shape
  pub dest_limit : dest.limit ≡ job.config.credit
  pub dest_layout : dest.told.shape ≡ job.shape
  pub streams_shape : streams.shape ≡ job.shape
  pub streams_format : streams.format ≡ job.format
  pub each_stream : length streams.lanes ≡ job.config.streams
  pub none_made : streams.making ≡ []
  pub wires_room : (s : ℕ) → s < job.config.streams → job.config.credit * most_bytes job.shape job.format ≤ (lane streams s).wire.capacity
  pub back_room : HEAD_SIZE * job.config.credit ≤ back.wire.capacity

-- what the parts keep: the journal is a run of the job, they show the view that it ends in, and where both devices tell
-- what they hold, the contents hold; the bytes read are as many as the history's reads
pub record IsRunning (s : State) : Type 0 where
  pub good : IsGoodJob (job_of s.job)
  pub fitting : list_all (λ e. fits (job_of s.job) e.event) s.journal ≡ true
  pub is_run : is_run (job_of s.job) s.journal ≡ true
  pub parts : ArePartsOf (job_of s.job) s.source s.dest s.streams s.back
  pub shows : shown s (view s) ≡ view s
  pub contents : both_tell s ≡ true → HoldsContents (job_of s.job) (view s) (contents_of s)
  pub reads_long : length s.reads ≡ length (reads (job_of s.job) (view s).history (length (view s).history))

-- the bytes gathered and in transit are the spellings of what the streams and the way back carry
pub record IsCarriedOver (over : Streamed) (way_back : Returned) : Type 0 where
  pub streams : Each (IsCarried over.shape over.format) over.lanes
  pub back : AreCarried way_back

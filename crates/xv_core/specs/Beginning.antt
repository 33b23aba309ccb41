-- What a migration asks of its devices and wires where it begins, and how it is seen then.
use Rattle.std.specs.Prelude.{◌≡◌, ◌≤◌, ℕ, ◌*◌, List, [], length, map, All, IfSome}
use Rattle.xv_device.specs.Told.{Told as DeviceTold, IsSized}
use Rattle.xv_wire.specs.Told.{Told as WireTold}
use Rattle.xv_frame.specs.declared.codes.TheConstants.{HEAD_SIZE}
use Rattle.xv_model.specs.Job.{Job}
use Rattle.xv_model.specs.Contents.{first_source}
use Rattle.xv_streams.specs.Carried.{most_bytes}
use Rattle.xv_job.specs.Written.{Written, job_of}
use Rattle.xv_core.specs.Seen.{Seen, OnDevice, OnWire}
use Rattle.xv_core.specs.PartsSeen.{PartsSeen}
use Rattle.xv_core.specs.Starting.{CountsLittle, PutsLittle, CountsNoPiece}

-- A device of the job's layout. Each of its calls tells that it has a number of writes and a content for every unit, but no
-- call is made at the start. Its numbers have room for the run's calls: one that stands near the end of its type allows no
-- call more, which nothing of the run can mend.
pub record IsDeviceFor (job : Job) (told : DeviceTold) : Type 0 where
  pub layout : told.shape ≡ job.shape
  pub sized : IsSized told
  pub little : CountsLittle told

-- the source begins with the job's contents, where it tells what it holds: what the copy finds is the guest's
abbrev pub BeginsWithJob : Job → DeviceTold → Type 0
BeginsWithJob job told = IfSome told.contents (λ contents. contents ≡ first_source job)

-- A wire in which nothing is in transit, with room for so many bytes, since a put must find room. Its pieces are told beside
-- its bytes, and no law of wires ties the one to the other, so that there is none is asked for too; and its number of puts
-- has room for the run's.
pub record IsWireFor (room : ℕ) (told : WireTold) : Type 0 where
  pub none : told.transit ≡ []
  pub no_piece : CountsNoPiece told
  pub little : PutsLittle told
  pub roomy : room ≤ told.capacity

-- room for all credit in frames of the greatest unit, and in acknowledgements
abbrev pub stream_room : Job → ℕ
stream_room job = job.config.credit * most_bytes job.shape job.format

abbrev pub back_room : Job → ℕ
back_room job = HEAD_SIZE * job.config.credit

-- parts that a migration may begin with, where their wires tell this
pub record AreFit {W : Type 0} (told : W → WireTold) (p : PartsSeen W) : Type 0 where
  pub source : IsDeviceFor (job_of p.job) p.source.told
  pub first : BeginsWithJob (job_of p.job) p.source.told
  pub dest : IsDeviceFor (job_of p.job) p.dest.told
  pub streams : length p.wires ≡ p.job.config.streams
  pub wires : All (λ w. IsWireFor (stream_room (job_of p.job)) (told w)) p.wires
  pub back : IsWireFor (back_room (job_of p.job)) (told p.back)

-- a wire on which nothing is gathered
abbrev pub fresh_wire : WireTold → ℕ → OnWire
fresh_wire told faults = record { gathered = []; told = told; faults = faults }

-- nothing has happened
abbrev pub begun : Written → OnDevice → OnDevice → List OnWire → OnWire → Seen
begun job source dest wires back = record {
  job = job;
  journal = [];
  reads = [];
  regions = map (λ _. []) job.shape.disks;
  outbox = [];
  held = [];
  source = source;
  dest = dest;
  wires = wires;
  back = back;
}

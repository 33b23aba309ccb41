-- What contracts see of a migration: its job, its journal, the bytes that its guests have read, what it holds of the blocks
-- and messages that are on their way, and what its devices and wires tell. The view is the run of the journal.
use Rattle.std.specs.Prelude.{ℕ, List, [], get_or, None}
use Rattle.xv_device.specs.Told.{Told as DeviceTold}
use Rattle.xv_wire.specs.Told.{Told as WireTold}
use Rattle.xv_model.specs.Step.{Entry, run}
use Rattle.xv_model.specs.View.{View}
use Rattle.xv_job.specs.Written.{Written, job_of}

-- a device: what it tells, and how many of its calls have failed
pub record OnDevice : Type 0 where
  pub told : DeviceTold
  pub faults : ℕ

-- a wire: the bytes gathered of a frame that is not whole, what it tells, and how many of its calls have failed
pub record OnWire : Type 0 where
  pub gathered : List ℕ
  pub told : WireTold
  pub faults : ℕ

-- `regions` has for each disk the blocks read of its region; `outbox` and `held` have the contents of the messages that are
-- not sent, and of those that have arrived and are not written
pub record Seen : Type 0 where
  pub job : Written
  pub journal : List Entry
  pub reads : List ℕ
  pub regions : List (List (List ℕ))
  pub outbox : List (List ℕ)
  pub held : List (List ℕ)
  pub source : OnDevice
  pub dest : OnDevice
  pub wires : List OnWire
  pub back : OnWire

-- the view that a migration stands in
abbrev pub view_of : Seen → View
view_of m = run (job_of m.job) m.journal

-- what stands for a wire that is not there, and the wire of a stream
abbrev pub no_wire : OnWire
no_wire = record { gathered = []; told = record { capacity = 0; transit = []; counted = None }; faults = 0 }

abbrev pub wire : Seen → ℕ → OnWire
wire m s = get_or m.wires s no_wire

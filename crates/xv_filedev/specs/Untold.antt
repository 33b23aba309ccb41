-- What is seen of a device over a file, which does not tell what the file holds.
use Rattle.std.specs.Prelude.{ℕ, Bool, if◌then◌else◌, List, None}
use Rattle.xv_base.specs.Units.{Shape}
use Rattle.xv_base.specs.Calls.{next_count}
use Rattle.xv_device.specs.Device.{DeviceCall, writes_after}
use Rattle.xv_device.specs.Told.{Told}

-- the layout, how many writes of each unit have succeeded, and how many calls have failed
pub record Untold : Type 0 where
  pub shape : Shape
  pub writes : List ℕ
  pub faults : ℕ

-- what it tells
abbrev pub untold : Untold → Told
untold d = record { shape = d.shape; writes = d.writes; contents = None; counted = None }

-- a device after a call that failed or did not
abbrev pub after : DeviceCall → Bool → Untold → Untold
after call failed d = record {
  shape = d.shape;
  writes = if failed then d.writes else writes_after call d.writes;
  faults = if failed then next_count d.faults else d.faults;
}

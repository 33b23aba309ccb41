-- What a device tells, what may be called, and that exactly one call was made.
use Rattle.std.specs.Prelude.{◌≡◌, ℕ, ◌+◌, ◌-◌, ◌^◌, ◌<◌, ◌≤◌, min, Bool, if◌then◌else◌, List, length, Option, option_map, IfSome, ⊤}
use Rattle.xv_base.specs.Units.{Shape, units, size}
use Rattle.xv_device.specs.Device.{DeviceCall, NoCall, ReadRange, PatchRange, WriteUnit, FlushAll, Calls, Counted, content, write_count, contents_after, writes_after, calls_after, is_planned}

-- the layout, how many writes of each unit succeeded, and where they are told the content of each unit, and the plan
-- with what it counts
pub record Told : Type 0 where
  pub shape : Shape
  pub writes : List ℕ
  pub contents : Option (List (List ℕ))
  pub counted : Option Counted

-- what may be called: a range that lies in its unit, bytes of the unit's size for a whole unit, and numbers that have
-- not grown out of reach
abbrev pub LiesWithin : DeviceCall → Shape → Type 0
LiesWithin NoCall s = ⊤
LiesWithin (ReadRange unit offset len) s = (unit < units s) × (offset + len ≤ size s unit)
LiesWithin (PatchRange unit offset bytes) s = (unit < units s) × (offset + length bytes ≤ size s unit)
LiesWithin (WriteUnit unit bytes) s = (unit < units s) × (length bytes ≡ size s unit)
LiesWithin FlushAll s = ⊤

abbrev pub HasFewWrites : DeviceCall → List ℕ → Type 0
HasFewWrites NoCall writes = ⊤
HasFewWrites (ReadRange unit offset len) writes = ⊤
HasFewWrites (PatchRange unit offset bytes) writes = write_count writes unit < 2 ^ 63
HasFewWrites (WriteUnit unit bytes) writes = write_count writes unit < 2 ^ 63
HasFewWrites FlushAll writes = ⊤

abbrev pub IsCountable : DeviceCall → Calls → Type 0
IsCountable NoCall calls = ⊤
IsCountable (ReadRange unit offset len) calls = calls.reads < 2 ^ 63
IsCountable (PatchRange unit offset bytes) calls = calls.writes < 2 ^ 63
IsCountable (WriteUnit unit bytes) calls = calls.writes < 2 ^ 63
IsCountable FlushAll calls = calls.flushes < 2 ^ 63

pub record MayCall (call : DeviceCall) (told : Told) : Type 0 where
  pub lies_within : LiesWithin call told.shape
  pub few_writes : HasFewWrites call told.writes
  pub countable : IfSome told.counted (λ c. IsCountable call c.calls)

-- no number is out of reach of one call more
pub record HasRoomToCount (told : Told) : Type 0 where
  pub writes : (unit : ℕ) → write_count told.writes unit < 2 ^ 63
  pub calls : IfSome told.counted (λ c. (c.calls.reads < 2 ^ 63) × (c.calls.writes < 2 ^ 63) × (c.calls.flushes < 2 ^ 63))

-- what is told after a call that failed or did not
abbrev pub told_after : DeviceCall → Bool → Told → Told
told_after call failed t = record {
  shape = t.shape;
  writes = if failed then t.writes else writes_after call t.writes;
  contents = option_map (λ contents. if failed then contents else contents_after call contents) t.contents;
  counted = option_map (λ c. record { plan = c.plan; calls = calls_after call c.calls }) t.counted;
}

-- exactly this call was made, and failed or did not; where a plan is told it failed by the plan, and where it failed
-- the number of faults rose, or stands at the last value of 64 bits
pub record CallMade (call : DeviceCall) (failed : Bool) (before later : Told) (faults more : ℕ) : Type 0 where
  pub told : later ≡ told_after call failed before
  pub planned : IfSome before.counted (λ c. failed ≡ is_planned call c)
  pub cause : min (faults + (if failed then 1 else 0)) (2 ^ 64 - 1) ≤ more
  pub never_falls : faults ≤ more

-- there is a number of writes for each unit, and a content of the unit's size where contents are told
pub record IsSized (told : Told) : Type 0 where
  pub writes_each : length told.writes ≡ units told.shape
  pub contents_each : IfSome told.contents (λ contents. length contents ≡ units told.shape)
  pub full : IfSome told.contents (λ contents. (unit : ℕ) → unit < units told.shape → length (content contents unit) ≡ size told.shape unit)

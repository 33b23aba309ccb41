-- A call of a device as data, and what it does to contents, numbers of writes and numbers of calls.
use Rattle.std.specs.Prelude.{ℕ, ◌+◌, Bool, false, List, [], ◌++◌, length, get_or, set, take, drop}
use Rattle.xv_base.specs.Calls.{is_listed}

-- one call: of a range of a unit, of a whole unit, of the device, or none at all
pub data DeviceCall : Type 0 where
  NoCall : DeviceCall
  ReadRange : ℕ → ℕ → ℕ → DeviceCall
  PatchRange : ℕ → ℕ → List ℕ → DeviceCall
  WriteUnit : ℕ → List ℕ → DeviceCall
  FlushAll : DeviceCall

-- the numbers, from 1, of the calls that are to fail, for each kind; a patch is a write
pub record Plan : Type 0 where
  pub reads : List ℕ
  pub writes : List ℕ
  pub flushes : List ℕ

-- how many calls of each kind were made
pub record Calls : Type 0 where
  pub reads : ℕ
  pub writes : ℕ
  pub flushes : ℕ

pub record Counted : Type 0 where
  pub plan : Plan
  pub calls : Calls

abbrev pub content : List (List ℕ) → ℕ → List ℕ
content contents unit = get_or contents unit []

abbrev pub write_count : List ℕ → ℕ → ℕ
write_count writes unit = get_or writes unit 0

-- a content with these bytes laid over it from an offset on
abbrev pub patched : ℕ → List ℕ → List ℕ → List ℕ
patched offset bytes old = take offset old ++ bytes ++ drop (offset + length bytes) old

-- the contents, the numbers of writes and the numbers of calls after a call; the first two where it succeeded
abbrev pub contents_after : DeviceCall → List (List ℕ) → List (List ℕ)
contents_after NoCall contents = contents
contents_after (ReadRange unit offset len) contents = contents
contents_after (PatchRange unit offset bytes) contents = set contents unit (patched offset bytes (content contents unit))
contents_after (WriteUnit unit bytes) contents = set contents unit bytes
contents_after FlushAll contents = contents

abbrev pub writes_after : DeviceCall → List ℕ → List ℕ
writes_after NoCall writes = writes
writes_after (ReadRange unit offset len) writes = writes
writes_after (PatchRange unit offset bytes) writes = set writes unit (write_count writes unit + 1)
writes_after (WriteUnit unit bytes) writes = set writes unit (write_count writes unit + 1)
writes_after FlushAll writes = writes

abbrev pub calls_after : DeviceCall → Calls → Calls
calls_after NoCall calls = calls
calls_after (ReadRange unit offset len) calls = record calls { reads = calls.reads + 1 }
calls_after (PatchRange unit offset bytes) calls = record calls { writes = calls.writes + 1 }
calls_after (WriteUnit unit bytes) calls = record calls { writes = calls.writes + 1 }
calls_after FlushAll calls = record calls { flushes = calls.flushes + 1 }

-- the bytes that a read gives of the contents
abbrev pub range_of : ℕ → ℕ → ℕ → List (List ℕ) → List ℕ
range_of unit offset len contents = take len (drop offset (content contents unit))

-- whether the plan has the number that the call raises its kind's count to
abbrev pub is_planned : DeviceCall → Counted → Bool
is_planned NoCall c = false
is_planned (ReadRange unit offset len) c = is_listed c.plan.reads (c.calls.reads + 1)
is_planned (PatchRange unit offset bytes) c = is_listed c.plan.writes (c.calls.writes + 1)
is_planned (WriteUnit unit bytes) c = is_listed c.plan.writes (c.calls.writes + 1)
is_planned FlushAll c = is_listed c.plan.flushes (c.calls.flushes + 1)

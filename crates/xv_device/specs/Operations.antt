-- The call of a device that carries out a guest's operation, and what it gives.
use Rattle.std.specs.Prelude.{◌≡◌, ℕ, List, take, Option, Some, None, IfSome, if◌then◌else◌}
use Rattle.xv_base.specs.declared.pattern.UnitOp.{UnitOp}
use Rattle.xv_base.specs.Pattern.{repeated}
use Rattle.xv_base.specs.Units.{Shape, is_page, size}
use Rattle.xv_device.specs.Device.{DeviceCall, ReadRange, PatchRange, WriteUnit, range_of}
use Rattle.xv_device.specs.Told.{Told}

-- a read of its part; a patch of it on a page; a write of the whole block
abbrev pub operation_call_by : Shape → UnitOp → Option (List ℕ) → DeviceCall
operation_call_by s op None = ReadRange op.unit.0 op.offset op.len
operation_call_by s op (Some pattern) =
    if is_page s op.unit.0 then PatchRange op.unit.0 op.offset (repeated pattern op.len) else WriteUnit op.unit.0 (repeated pattern op.len)

abbrev pub operation_call : Shape → UnitOp → DeviceCall
operation_call s op = operation_call_by s op op.write

-- the read of a whole unit
abbrev pub unit_read : Shape → ℕ → DeviceCall
unit_read s unit = ReadRange unit 0 (size s unit)

-- the first of these bytes are those that the operation reads of what the device told
abbrev pub AreRead : UnitOp → List ℕ → Told → Type 0
AreRead op bytes told = op.write ≡ None → IfSome told.contents (λ contents. take op.len bytes ≡ range_of op.unit.0 op.offset op.len contents)

-- What an unmigrated guest leaves.
use Rattle.std.specs.Prelude.{◌≡◌, ◌<◌, ◌≤◌, ℕ, ◌+◌, ◌^◌, List, [], length, map, get_or, Option, Some, None}
use Rattle.xv_base.specs.Units.{Shape, units, size}
use Rattle.xv_base.specs.declared.operation.Ended.{Ended}
use Rattle.xv_base.specs.declared.operation.Outcome.{Outcome}
use Rattle.xv_base.specs.declared.operation.Outcome.TheVariants.{Done, Faulted}
use Rattle.xv_base.specs.Pattern.{repeated}
use Rattle.xv_base.specs.declared.pattern.Init.{Init}
use Rattle.xv_base.specs.declared.pattern.UnitOp.{UnitOp}
use Rattle.xv_trace.specs.Operations.{all_unit_operations}
use Rattle.xv_trace.specs.OpText.{Program}
use Rattle.xv_model.specs.Job.{Job}
use Rattle.xv_model.specs.Guest.{content, reads}
use Rattle.xv_model.specs.Contents.{unit_content, read_of}
use Rattle.xv_device.specs.Device.{DeviceCall, NoCall, ReadRange, PatchRange, write_count}
use Rattle.xv_device.specs.Memory.{Device}

-- the units, their contents, and the bytes of all reads that were done
pub record Plain : Type 0 where
  pub shape : Shape
  pub contents : List (List ℕ)
  pub read : List ℕ

-- the unit operations of a trace, and those of a guest; a guest without a trace has none
abbrev pub unit_ops : Program → List UnitOp
unit_ops program = all_unit_operations program.shape program.ops

abbrev pub guest_ops : List Program → ℕ → List UnitOp
guest_ops programs guest = get_or (map unit_ops programs) guest []

-- a unit operation lies in its unit
pub record LiesIn (shape : Shape) (op : UnitOp) : Type 0 where
  pub unit_is : op.unit.0 < units shape
  pub in_unit : op.offset + op.len ≤ size shape op.unit.0

-- a job with this machine, these first contents and these traces
pub record IsJobOf (job : Job) (shape : Shape) (init : List Init) (programs : List Program) : Type 0 where
  pub shape_is : job.shape ≡ shape
  pub init_is : job.init ≡ init
  pub traces_are : job.traces ≡ map unit_ops programs

-- the contents, and the bytes read, are those of the job's unmigrated guest after the whole history
pub record IsUnmigrated (job : Job) (history : List Ended) (plain : Plain) : Type 0 where
  pub contents_are : (unit : ℕ) → unit < units job.shape → unit_content plain.contents unit ≡ content job history unit (length history)
  pub read_is : plain.read ≡ reads job history (length history)

-- the call of a device that a unit operation is, where it was done, and the bytes that it then reads
abbrev pub call_by : Option (List ℕ) → UnitOp → DeviceCall
call_by None op = ReadRange op.unit.0 op.offset op.len
call_by (Some pattern) op = PatchRange op.unit.0 op.offset (repeated pattern op.len)

abbrev pub call_of : Outcome → UnitOp → DeviceCall
call_of Done op = call_by op.write op
call_of Faulted op = NoCall

abbrev pub bytes_of : Outcome → UnitOp → List (List ℕ) → List ℕ
bytes_of Done op contents = read_of op contents
bytes_of Faulted op contents = []

-- a device in memory whose next call, be it of this unit, does not fail and is counted
pub record IsSure (device : Device) (unit : ℕ) : Type 0 where
  pub no_failing_read : device.reading.fails ≡ []
  pub no_failing_write : device.writing.fails ≡ []
  pub unit_countable : write_count device.writes unit < 2 ^ 63

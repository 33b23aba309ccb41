-- A migration over devices and wires in memory: how it begins with its job, and what holds of it from then on.
use Rattle.std.specs.Prelude.{ℕ, List, [], map}
use Rattle.std.specs.List.{range_with_len}
use Rattle.xv_base.specs.declared.pattern.Init.{Init}
use Rattle.xv_device.specs.Device.{Plan as DevicePlan}
use Rattle.xv_device.specs.Memory.{fresh as fresh_device, told as told_device}
use Rattle.xv_wire.specs.Wire.{Plan as WirePlan}
use Rattle.xv_wire.specs.Memory.{Pipe, fresh as fresh_pipe, told as told_pipe}
use Rattle.xv_job.specs.Written.{Written, job_of}
use Rattle.xv_core.specs.Seen.{Seen, OnDevice, OnWire}
use Rattle.xv_core.specs.Beginning.{stream_room, back_room, fresh_wire, begun}
use Rattle.xv_core.specs.Origin.{HasOrigin}
use Rattle.xv_core.specs.Keeping.{IsKept}
use Rattle.xv_parts.specs.Plans.{source_plan, dest_plan, stream_plan, back_plan}

-- a device on which no call was made: the source holds the job's first contents, the destination zeros
abbrev pub device_begun : Written → List Init → DevicePlan → OnDevice
device_begun w init plan = record { told = told_device (fresh_device w.shape init plan); faults = 0 }

-- a wire on which nothing was put, whose takes give at most 700 bytes; for a stream, one with its own plan
abbrev pub pipe_begun : ℕ → WirePlan → Pipe
pipe_begun room plan = fresh_pipe room 700 plan

abbrev pub stream_pipe : Written → ℕ → Pipe
stream_pipe w s = pipe_begun (stream_room (job_of w)) (stream_plan w.faults s)

-- and how they are seen
abbrev pub wire_begun : ℕ → WirePlan → OnWire
wire_begun room plan = fresh_wire (told_pipe (pipe_begun room plan)) 0

abbrev pub stream_begun : Written → ℕ → OnWire
stream_begun w s = wire_begun (stream_room (job_of w)) (stream_plan w.faults s)

-- the calls of devices and wires fail where the job's faults name their numbers
abbrev pub begun_in_memory : Written → Seen
begun_in_memory w =
    begun w (device_begun w w.init (source_plan w.faults)) (device_begun w [] (dest_plan w.faults))
    (map (stream_begun w) (range_with_len 0 w.config.streams)) (wire_begun (back_room (job_of w)) (back_plan w.faults))

-- a migration that began so with its job, whatever has happened since
pub record IsInMemory (m : Seen) : Type 0 where
  pub kept : IsKept m
  pub origin : HasOrigin (begun_in_memory m.job) m

-- The plans of devices and wires: the numbers of the calls of each kind that a job's faults name.
use Rattle.std.specs.Prelude.{ℕ, Bool, List, [], map, filter}
use Rattle.xv_device.specs.Device.{Plan as DevicePlan}
use Rattle.xv_wire.specs.Wire.{Plan as WirePlan}
use Rattle.xv_model.specs.Job.{Fault}
use Rattle.xv_model.specs.Step.{Call, SourceRead, SourceWrite, DestRead, DestWrite, DestFlush, Put, Take, AckPut, AckTake, same_call, fault_call, fault_number}

abbrev pub is_of_kind : Call → Fault → Bool
is_of_kind c fault = same_call (fault_call fault) c

abbrev pub numbers_of : List Fault → Call → List ℕ
numbers_of faults c = map fault_number (filter (is_of_kind c) faults)

abbrev pub source_plan : List Fault → DevicePlan
source_plan faults = record { reads = numbers_of faults SourceRead; writes = numbers_of faults SourceWrite; flushes = [] }

abbrev pub dest_plan : List Fault → DevicePlan
dest_plan faults = record { reads = numbers_of faults DestRead; writes = numbers_of faults DestWrite; flushes = numbers_of faults DestFlush }

abbrev pub stream_plan : List Fault → ℕ → WirePlan
stream_plan faults s = record { puts = numbers_of faults (Put s); takes = numbers_of faults (Take s) }

abbrev pub back_plan : List Fault → WirePlan
back_plan faults = record { puts = numbers_of faults AckPut; takes = numbers_of faults AckTake }

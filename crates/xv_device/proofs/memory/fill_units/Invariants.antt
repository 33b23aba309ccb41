use Rattle.std.proofs.Common.{◌≡◌, drop}
use Rattle.xv_device.specs.Pieces.{pieces}
use Rattle.xv_device.specs.Memory.{first_contents}
use Rattle.xv_device.proofs.memory.fill_units.Given as goal

abbrev pub invariant-loop-k : goal.invariant-loop-k
invariant-loop-k l = pieces l.layout l.bytes ≡ first_contents l.layout (drop l.k l.init)

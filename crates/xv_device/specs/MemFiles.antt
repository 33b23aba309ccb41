-- What is seen of files in memory.
use Rattle.std.specs.Prelude.{Option, option_map}
use Rattle.xv_base.specs.Calls.{Planned}
use Rattle.xv_device.specs.Files.{Pair}
use Rattle.xv_device.specs.Memory.{Device}

-- the calls of `create`, and the pair that was given back
pub record Made : Type 0 where
  pub making : Planned
  pub pair : Option (Pair Device)

-- What a migration is made of, as contracts see it: its job, of each device what it tells and how many of its calls have
-- failed, and the wires as they are.
use Rattle.std.specs.Prelude.{List}
use Rattle.xv_job.specs.Written.{Written}
use Rattle.xv_core.specs.Seen.{OnDevice}

pub record PartsSeen (W : Type 0) : Type 0 where
  pub job : Written
  pub source : OnDevice
  pub dest : OnDevice
  pub wires : List W
  pub back : W

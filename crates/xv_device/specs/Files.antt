-- Devices that are made by their names, and the two that are given back.
use Rattle.std.specs.Prelude.{◌≡◌, ℕ, ◌<◌, List, length, get_or, replicate, IfSome}
use Rattle.xv_base.specs.declared.pattern.Init.{Init}
use Rattle.xv_base.specs.Initial.{no_init, first_contents}
use Rattle.xv_base.specs.Units.{Shape, units}
use Rattle.xv_device.specs.Device.{Calls}
use Rattle.xv_device.specs.Told.{Told, IsSized}

-- the source and the destination of a migration
pub record Pair (D : Type 0) : Type 0 where
  pub source : D
  pub dest : D

-- what the units begin with is said of units that are there
abbrev pub IsWithin : Shape → List Init → Type 0
IsWithin shape init = (i : ℕ) → i < length init → (get_or init i no_init).unit.0 < units shape

-- no call was made
abbrev pub no_calls : Calls
no_calls = record { reads = 0; writes = 0; flushes = 0 }

-- A device that was just made: it has the layout; no write, no fault and, where it tells a plan, no call is counted; where it
-- tells contents, they are the first ones, each of its unit's size.
pub record IsMade (shape : Shape) (init : List Init) (told : Told) (faults : ℕ) : Type 0 where
  pub layout : told.shape ≡ shape
  pub unwritten : told.writes ≡ replicate (units shape) 0
  pub uncalled : IfSome told.counted (λ c. c.calls ≡ no_calls)
  pub contents : IfSome told.contents (λ contents. contents ≡ first_contents shape init)
  pub sized : IsSized told
  pub no_fault : faults ≡ 0

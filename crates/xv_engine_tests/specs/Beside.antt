-- A hold beside a list of heads that is scanned, as the tests keep one.
use Rattle.std.specs.Prelude.{◌≡◌, ℕ, List, [], length}
use Rattle.xv_base.specs.Units.{shape_of}
use Rattle.xv_hold.specs.Messages.{Hold, UnitHead, heads}

-- the list has the heads of what is held, in order, and the versions are those that were written
pub record IsBeside (hold : Hold) (held : List UnitHead) (written : List ℕ) : Type 0 where
  pub shape : hold.shape ≡ shape_of 4 16 []
  pub limit : hold.limit ≡ 16
  pub heads : heads hold.messages ≡ held
  pub versions : hold.applied ≡ written
  pub each : length written ≡ 4

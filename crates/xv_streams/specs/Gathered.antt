-- What is seen of a lane by itself.
use Rattle.std.specs.Prelude.{ℕ, List}

-- the bytes gathered, how many there may be, and how many frames are on the way
pub record Gathered : Type 0 where
  pub bytes : List ℕ
  pub room : ℕ
  pub waiting : ℕ

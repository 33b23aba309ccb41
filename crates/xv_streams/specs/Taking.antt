-- Some takes of a wire, one after another, seen as one.
use Rattle.std.specs.Prelude.{◌≡◌, ℕ, ◌<◌, ◌≤◌, Bool, ◌&&◌, true, nat_lt, List, [], ◌∷◌, length, IfSome}
use Rattle.xv_wire.specs.Wire.{TakeBytes, Counted, is_planned}
use Rattle.xv_wire.specs.Told.{Told, told_after, Caused}

-- how many bytes of the first piece are in transit
abbrev pub first_left : List ℕ → ℕ
first_left [] = 0
first_left (p ∷ ps) = p

-- the bytes that are wanted are of one piece, if any are in transit
abbrev pub AreOfOnePiece : ℕ → Told → Counted → Type 0
AreOfOnePiece want t c = 0 < length t.transit → want ≤ first_left c.left

-- of so many bytes wanted these were taken, until that was enough, none were left, or a take failed before it was enough;
-- where they are of one piece it failed by the plan of the first take
pub record TakesMade (n : ℕ) (failed : Bool) (want : ℕ) (before later : Told) (faults more : ℕ) : Type 0 where
  pub told : later ≡ told_after (TakeBytes n) failed before
  pub planned : IfSome before.counted (λ c. AreOfOnePiece want before c → failed ≡ (nat_lt 0 want && is_planned (TakeBytes 0) before.transit c))
  pub early : failed ≡ true → n < want
  pub caused : Caused failed faults more

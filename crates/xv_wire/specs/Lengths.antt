-- The pieces in transit, as a wire in memory remembers them.
use Rattle.std.specs.Prelude.{◌≡◌, ℕ, ◌+◌, ◌<◌, ◌≤◌, Bool, ◌||◌, nat_lt, List, [], ◌∷◌, ⊤}
use Rattle.xv_wire.specs.declared.wire.TheConstants.{LEAST_PUT}
use Rattle.xv_wire.specs.Wire.{left_past}

-- what is left of each, whether a take has met the first byte of the first, and how many bytes they may have together
pub record InTransit : Type 0 where
  pub left : List ℕ
  pub met : Bool
  pub most : ℕ

-- how many bytes these have together
abbrev pub total : List ℕ → ℕ
total [] = 0
total (p ∷ ps) = p + total ps

-- each piece had the bytes of a put, or more
abbrev pub AreWide : List ℕ → Type 0
AreWide [] = ⊤
AreWide (p ∷ ps) = (LEAST_PUT ≤ p) × AreWide ps

-- so many bytes are a part of the first piece, and none of no piece
abbrev pub IsPart : ℕ → List ℕ → Type 0
IsPart n [] = n ≡ 0
IsPart n (p ∷ ps) = n < p

-- the pieces of these lengths after so many bytes of the first were taken
abbrev pub in_transit : List ℕ → ℕ → Bool → ℕ → InTransit
in_transit lengths gone halted m = record { left = left_past gone lengths; met = halted || nat_lt 0 gone; most = m }

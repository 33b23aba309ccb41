-- Where a byte cuts bytes in two: at its first place.
use Rattle.std.specs.Prelude.{◌≡◌, ℕ, ◌==◌, false, List, ◌∷◌, ◌++◌}
use Rattle.std.specs.List.{list_any}

-- a byte does not stand in these
abbrev pub Lacks : ℕ → List ℕ → Type 0
Lacks byte bytes = list_any (λ b. b == byte) bytes ≡ false

-- these stand before the first such byte, and those behind it
pub record IsCut (byte : ℕ) (bytes front back : List ℕ) : Type 0 where
  pub whole : bytes ≡ front ++ byte ∷ back
  pub first : Lacks byte front

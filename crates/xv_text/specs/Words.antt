-- Words by their spellings.
use Rattle.std.specs.Prelude.{ℕ, nat_eq, Bool, List}
use Rattle.std.specs.Cmp.Lexicographic.{pointwise}

-- whether a field is spelled so
abbrev pub is_spelled : List ℕ → List ℕ → Bool
is_spelled spelling field = pointwise nat_eq spelling field

-- What a pattern writes.
use Rattle.std.specs.Prelude.{ℕ, zero, suc, ◌%◌, List, [], ◌∷◌, ◌++◌, length, slice_index}

-- the first n bytes of a pattern that is repeated without end
abbrev pub repeated : List ℕ → ℕ → List ℕ
repeated pattern zero = []
repeated pattern (suc n) = repeated pattern n ++ slice_index pattern (n % length pattern) ∷ []

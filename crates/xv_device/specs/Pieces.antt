-- The contents of units that lie one after another in one list of bytes.
use Rattle.std.specs.Prelude.{ℕ, List, map, take, drop}
use Rattle.std.specs.List.{range_with_len}
use Rattle.xv_base.specs.Units.{Shape, units, size, place}

-- a unit's bytes
abbrev pub piece : Shape → List ℕ → ℕ → List ℕ
piece shape bytes unit = take (size shape unit) (drop (place shape unit) bytes)

-- those of each unit
abbrev pub pieces : Shape → List ℕ → List (List ℕ)
pieces shape bytes = map (piece shape bytes) (range_with_len 0 (units shape))

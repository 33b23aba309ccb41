-- What is seen of slots.
use Rattle.std.specs.Prelude.{ℕ, ◌+◌, ◌*◌, List, [], ◌++◌, length, map, take, drop, set, replicate, get_or}
use Rattle.std.specs.List.{range_with_len}

-- how many bytes a slot has, and what each slot holds
pub record Row : Type 0 where
  pub width : ℕ
  pub slots : List (List ℕ)

-- the bytes of a slot
abbrev pub content : Row → ℕ → List ℕ
content row k = get_or row.slots k []

-- the slots of so many bytes, so many, that lie one after another in these bytes
abbrev pub row_of : ℕ → ℕ → List ℕ → Row
row_of width count bytes = record { width = width; slots = map (λ k. take width (drop (k * width) bytes)) (range_with_len 0 count) }

abbrev pub empty : ℕ → ℕ → Row
empty count width = record { width = width; slots = replicate count (replicate width 0) }

-- bytes with others laid over them from an offset on
abbrev pub laid : ℕ → List ℕ → List ℕ → List ℕ
laid offset over bytes = take offset bytes ++ over ++ drop (offset + length over) bytes

-- bytes put into a slot, from its start on
abbrev pub put : Row → ℕ → List ℕ → Row
put row k bytes = record row { slots = set row.slots k (bytes ++ drop (length bytes) (content row k)) }

-- The fields of a frame: numbers with their highest byte first, and bytes that are zero.
use Rattle.std.specs.Prelude.{ℕ, ◌==◌, Bool, List, take, drop, slice_index}
use Rattle.std.specs.List.{list_all}
use Rattle.std.specs.Int.{w16, w32, w64, to_be_bytes, from_be_bytes}

-- the two, four and eight bytes of a number
unfoldable pub short_bytes : ℕ → List ℕ
short_bytes n = to_be_bytes w16 n

unfoldable pub word_bytes : ℕ → List ℕ
word_bytes n = to_be_bytes w32 n

unfoldable pub long_bytes : ℕ → List ℕ
long_bytes n = to_be_bytes w64 n

-- the byte at a place, and the number whose two, four or eight bytes begin there
abbrev pub byte_at : List ℕ → ℕ → ℕ
byte_at bytes at = slice_index bytes at

unfoldable pub short_at : List ℕ → ℕ → ℕ
short_at bytes at = from_be_bytes w16 (drop at bytes)

unfoldable pub word_at : List ℕ → ℕ → ℕ
word_at bytes at = from_be_bytes w32 (drop at bytes)

unfoldable pub long_at : List ℕ → ℕ → ℕ
long_at bytes at = from_be_bytes w64 (drop at bytes)

-- whether all bytes are zero, and whether so many from a place on are
abbrev pub all_zero : List ℕ → Bool
all_zero bytes = list_all (λ b. b == 0) bytes

abbrev pub zero_at : List ℕ → ℕ → ℕ → Bool
zero_at bytes at count = all_zero (take count (drop at bytes))

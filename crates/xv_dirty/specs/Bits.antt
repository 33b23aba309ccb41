-- Bits of words.
use Rattle.std.specs.Prelude.{◌≡◌, ℕ, ◌<◌, ◌≤◌, ◌/◌, ◌%◌, ◌^◌, ◌==◌, Bool, false, List, length, map, get_or}
use Rattle.std.specs.Int.{bit_at, div_ceil}
use Rattle.std.specs.List.{range_with_len}

-- whether a word has a bit, numbered from the lowest
abbrev pub has : ℕ → ℕ → Bool
has word i = bit_at word i == 1

-- whether the words, of 64 bits each, have a bit
abbrev pub is_set : List ℕ → ℕ → Bool
is_set words i = has (get_or words (i / 64) 0) (i % 64)

-- the first bits of the words, this many
abbrev pub bits_of : List ℕ → ℕ → List Bool
bits_of words count = map (is_set words) (range_with_len 0 count)

-- there are words for this many bits, and no bit past them is set
pub record HasBits (words : List ℕ) (count : ℕ) : Type 0 where
  pub few : count < 2 ^ 64
  pub enough : length words ≡ div_ceil count 64
  pub small : (w : ℕ) → get_or words w 0 < 2 ^ 64
  pub none_past : (i : ℕ) → count ≤ i → is_set words i ≡ false

-- How one level of bits sums up another: a bit of the upper is set exactly where that word of the lower has a member.
use Rattle.std.specs.Prelude.{◌≡◌, ℕ, ◌<◌, ◌/◌, ◌^◌, Bool, true, false, List, length, Option, Some, None}
use Rattle.std.specs.Int.{div_ceil}
use Rattle.xv_dirty.specs.Pages.{member, members}

-- a word, of 64 bits, has no member
pub record IsClear (level : List Bool) (word : ℕ) : Type 0 where
  pub none : (i : ℕ) → i / 64 ≡ word → member level i ≡ false

-- the least member of a word
pub record IsFirstOf (level : List Bool) (word i : ℕ) : Type 0 where
  pub there : member level i ≡ true
  pub within : i / 64 ≡ word
  pub first : (j : ℕ) → j < i → j / 64 ≡ word → member level j ≡ false

-- the least member
pub record IsFirst (level : List Bool) (i : ℕ) : Type 0 where
  pub there : member level i ≡ true
  pub first : (j : ℕ) → j < i → member level j ≡ false

pub record IsEmpty (level : List Bool) : Type 0 where
  pub none : (i : ℕ) → member level i ≡ false

-- the least member, or none
abbrev pub IsLeast : List Bool → Option ℕ → Type 0
IsLeast level None = IsEmpty level
IsLeast level (Some i) = IsFirst level i

pub record SumsUp (upper lower : List Bool) : Type 0 where
  pub enough : length upper ≡ div_ceil (length lower) 64
  pub clear : (word : ℕ) → member upper word ≡ false → IsClear lower word
  pub unset : (word : ℕ) → IsClear lower word → member upper word ≡ false

-- what a set keeps of its levels and its count
pub record IsSummed (pages words groups : List Bool) (count : ℕ) : Type 0 where
  pub small : length pages < 2 ^ 32
  pub counted : count ≡ members pages
  pub by_words : SumsUp words pages
  pub by_groups : SumsUp groups words

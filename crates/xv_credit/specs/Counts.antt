-- How messages under way are counted.
use Rattle.std.specs.Prelude.{ℕ}

-- how much credit is left, and how much there is when none of it is taken
pub record Count : Type 0 where
  pub left : ℕ
  pub whole : ℕ

-- a credit of which nothing is taken
abbrev pub untouched : ℕ → Count
untouched n = record { left = n; whole = n }

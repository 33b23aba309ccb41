-- How a list lies in an array of fixed length: blanks follow it.
use Rattle.std.specs.Prelude.{◌≡◌, ℕ, ◌-◌, ◌≤◌, List, ◌++◌, length, replicate, take}

-- the items, and blanks up to a length
abbrev pub padded_to : {A : Type 0} → A → ℕ → List A → List A
padded_to blank size items = items ++ replicate (size - length items) blank

-- the first `count` of these are the items, blanks follow them, and there are at most `size`
pub record IsPadded {A : Type 0} (blank : A) (size : ℕ) (count : ℕ) (padded : List A) : Type 0 where
  pub fits : count ≤ size
  pub counted : length (take count padded) ≡ count
  pub blanks_follow : padded_to blank size (take count padded) ≡ padded

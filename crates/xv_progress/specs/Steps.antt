-- What a step on a word tells the pass that takes it: of the step, the pass before, the number found and the pass after.
use Rattle.std.specs.Prelude.{◌≡◌, ◌^◌, ◌<◌, ◌≤◌, ℕ, false, slice_index, slice_set}
use Rattle.atomic_table.specs.Table.{Me, Step}
use Rattle.xv_progress.specs.declared.words.View.{View}

-- the view with another number of a word
abbrev pub with_number : View → ℕ → ℕ → View
with_number v word n = record v { seen = slice_set v.seen word n }

-- the pass has the number that it raised the word to
abbrev pub Raised : Step (Unit {0}) → Me (Unit {0}) View → ℕ → Me (Unit {0}) View → Type 0
Raised s v found w = w ≡ (with_number v.0 s.word s.first, v.1)

-- the pass has the number found, which is not below the one before
pub record Loaded (s : Step (Unit {0})) (v : Me (Unit {0}) View) (found : ℕ) (w : Me (Unit {0}) View) : Type 0 where
  pub takes : w ≡ (with_number v.0 s.word found, v.1)
  pub rises : slice_index v.0.seen s.word ≤ found
  pub fits : found < 2 ^ 62

-- the pass writes no longer
abbrev pub Retired : Step (Unit {0}) → Me (Unit {0}) View → ℕ → Me (Unit {0}) View → Type 0
Retired s v found w = w ≡ (record v.0 { writes = false }, v.1)

-- The numbers that are published, and how they stand to one another.
use Rattle.std.specs.Prelude.{◌+◌, ◌-◌, ◌^◌, ◌<◌, ◌≤◌, ℕ, max}
use Rattle.xv_progress.specs.declared.numbers.Numbers.{Numbers}

-- the entries of the journal that are in neither history nor applied
abbrev pub rest : Numbers → ℕ
rest n = n.journal - (n.history + n.applied)

-- all numbers are 0
abbrev pub no_numbers : Numbers
no_numbers = record { history = 0; copied = 0; applied = 0; journal = 0 }

-- history and applied are parts of the journal, and each word's number fits its word
pub record IsFit (n : Numbers) : Type 0 where
  pub parts : n.history + n.applied ≤ n.journal
  pub history_fits : n.history < 2 ^ 62
  pub copied_fits : n.copied < 2 ^ 62
  pub applied_fits : n.applied < 2 ^ 62
  pub rest_fits : rest n < 2 ^ 62

-- no word's number is below the one before
pub record IsNotBelow (before now : Numbers) : Type 0 where
  pub history_rises : before.history ≤ now.history
  pub copied_rises : before.copied ≤ now.copied
  pub applied_rises : before.applied ≤ now.applied
  pub rest_rises : rest before ≤ rest now

-- the greater of each word's number, with the journal that they make
abbrev pub greater : Numbers → Numbers → Numbers
greater a b = record {
  history = max a.history b.history;
  copied = max a.copied b.copied;
  applied = max a.applied b.applied;
  journal = max a.history b.history + max a.applied b.applied + max (rest a) (rest b);
}

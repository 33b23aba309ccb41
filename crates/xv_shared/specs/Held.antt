-- What the value of the lock keeps.
use Rattle.std.specs.Prelude.{◌≡◌, ℕ, length, List}
use Rattle.atomic_table.specs.Seated.{TableId}
use Rattle.xv_progress.specs.declared.numbers.Numbers.{Numbers}
use Rattle.xv_progress.specs.Passes.{Known}
use Rattle.xv_model.specs.Step.{Entry}
use Rattle.xv_model.specs.Growth.{happened, is_queued, is_fault, copied, applied}
use Rattle.xv_model.specs.Journal.{guest_entries, other_entries}
use Rattle.xv_core.specs.Seen.{Seen, view_of}
use Rattle.xv_core.specs.Origin.{HasOrigin}

-- four numbers, of each kind one: of the guests' answers, and of all other workers
pub record ByKind : Type 0 where
  pub done : ℕ
  pub queued : ℕ
  pub faulted : ℕ
  pub other : ℕ

abbrev pub by_kind : ℕ → ℕ → ℕ → ℕ → ByKind
by_kind done queued faulted other = record { done = done; queued = queued; faulted = faulted; other = other }

-- how many entries of a journal are of each kind
abbrev pub entries : List Entry → ByKind
entries journal = by_kind (guest_entries happened journal) (guest_entries is_queued journal) (guest_entries is_fault journal) (other_entries journal)

-- the numbers of a migration's progress
abbrev pub numbers_of : Seen → Numbers
numbers_of m = record {
  history = length (view_of m).history;
  copied = copied (view_of m);
  applied = applied (view_of m);
  journal = length m.journal;
}

-- The migration has the origin; the books stand at the numbers of its entries; the spare shares have no part; and its
-- numbers are those that were last published.
pub record IsHeld (origin m : Seen) (totals parts : ByKind) (publisher : Known) (progress : TableId) : Type 0 where
  pub came : HasOrigin origin m
  pub counted : totals ≡ entries m.journal
  pub spare : parts ≡ by_kind 0 0 0 0
  pub own : publisher.belongs ≡ progress
  pub last : publisher.numbers ≡ numbers_of m

-- What is seen of a history.
use Rattle.std.specs.Prelude.{◌≡◌, ◌<◌, ◌≤◌, ◌^◌, ℕ, Bool, true, false, List, length, count_by, slice_index, if◌then◌else◌}
use Rattle.xv_base.specs.declared.operation.Ended.{Ended}
pub use Rattle.xv_model.specs.Guest.{ended, no_entry, entry}
use Rattle.xv_base.specs.declared.operation.Outcome.{Outcome}
use Rattle.xv_base.specs.declared.operation.Outcome.TheVariants.{Done, Faulted}

-- the ended unit operations in the order in which they ended, and how many there is room for
pub record Log : Type 0 where
  pub entries : List Ended
  pub room : ℕ

abbrev pub is_faulted : Outcome → Bool
is_faulted Done = false
is_faulted Faulted = true

-- how many unit operations have faulted
abbrev pub fault_count : Outcome → ℕ
fault_count outcome = if is_faulted outcome then 1 else 0

abbrev pub faulted : List Ended → ℕ
faulted entries = count_by (λ e. is_faulted e.outcome) entries

-- the counts kept beside the entries are theirs, and there is memory for exactly as many as there is room for
pub record IsCounted (entries : List Ended) (room capacity : ℕ) (counts : List ℕ) (faults : ℕ) : Type 0 where
  pub small : room < 2 ^ 32
  pub fits : length entries ≤ room
  pub reserved : capacity ≡ room
  pub guests : length counts ≡ 2 ^ 8
  pub per_guest : (guest : ℕ) → guest < 2 ^ 8 → slice_index counts guest ≡ ended entries guest
  pub faults_are : faults ≡ faulted entries

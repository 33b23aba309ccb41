-- Calls that are numbered from 1, those that are to fail, and what is counted of them.
use Rattle.std.specs.Prelude.{ℕ, ◌+◌, ◌-◌, ◌^◌, ◌≤◌, ◌==◌, min, max, Bool, List, if◌then◌else◌}
use Rattle.std.specs.List.{list_any}

-- one more, in a count that stands still at the last value of 64 bits
abbrev pub next_count : ℕ → ℕ
next_count n = max n (min (n + 1) (2 ^ 64 - 1))

-- a count rose, or stands at its last value; it never falls
abbrev pub CountRose : ℕ → ℕ → Type 0
CountRose old new = next_count old ≤ new

-- the list has this number
abbrev pub is_listed : List ℕ → ℕ → Bool
is_listed numbers number = list_any (λ k. k == number) numbers

-- the calls of one kind: the numbers of those that are to fail, how many were made, and how many failed
pub record Planned : Type 0 where
  pub fails : List ℕ
  pub calls : ℕ
  pub faults : ℕ

-- a plan by which no call was made
abbrev pub planned : List ℕ → Planned
planned numbers = record { fails = numbers; calls = 0; faults = 0 }

-- whether the next call is to fail
abbrev pub fails_next : Planned → Bool
fails_next p = is_listed p.fails (next_count p.calls)

-- after one call more, which failed or did not
abbrev pub after_call : Bool → Planned → Planned
after_call failed p = record {
  fails = p.fails;
  calls = next_count p.calls;
  faults = if failed then next_count p.faults else p.faults;
}

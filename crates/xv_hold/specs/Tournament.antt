-- A tournament over slots: which of those that are ready arrived first.
use Rattle.std.specs.Prelude.{◌≡◌, ◌≢◌, ◌<◌, ◌≤◌, ◌^◌, ℕ, ◌+◌, nat_lt, List, length, map, drop, get_or, Option, Some, None, if◌then◌else◌}
use Rattle.xv_hold.specs.declared.ready.Entry.{Entry}

-- the entry at a place, and the entry of a slot
abbrev pub place : List (Option Entry) → ℕ → Option Entry
place places i = get_or places i None

abbrev pub entry_of : ℕ → Option ℕ → Option Entry
entry_of k None = None
entry_of k (Some n) = Some (record { arrival = n; slot = k })

-- the number of arrival in an entry
abbrev pub arrival_of : Option Entry → Option ℕ
arrival_of None = None
arrival_of (Some e) = Some e.arrival

-- what is seen: for each slot its number of arrival, none where it is not ready
abbrev pub arrivals_of : ℕ → List (Option Entry) → List (Option ℕ)
arrivals_of count places = map arrival_of (drop count places)

-- the entry that arrived earlier, of two that may be there
abbrev pub earlier : Option Entry → Option Entry → Option Entry
earlier None right = right
earlier (Some a) None = Some a
earlier (Some a) (Some b) = if nat_lt b.arrival a.arrival then Some b else Some a

-- each place before the last `count` has the earlier entry of the two below it, but for one place
abbrev pub IsWonBut : ℕ → List (Option Entry) → ℕ → Type 0
IsWonBut count places but =
    (i : ℕ) → 0 < i → i < count → i ≢ but → place places i ≡ earlier (place places (i + i)) (place places (i + i + 1))

-- what the places keep
pub record IsTournament (count : ℕ) (places : List (Option Entry)) : Type 0 where
  pub small : count < 2 ^ 32
  pub size : length places ≡ count + count
  pub won : IsWonBut count places 0
  pub own : (k : ℕ) → k < count → place places (count + k) ≡ entry_of k (arrival_of (place places (count + k)))

-- no slot is ready; a slot is ready, and none that is ready arrived before it
abbrev pub NoneReady : List (Option ℕ) → Type 0
NoneReady arrivals = (k : ℕ) → get_or arrivals k None ≡ None

pub record IsEarliest (arrivals : List (Option ℕ)) (first : ℕ) : Type 0 where
  pub within : first < length arrivals
  pub arrival : ℕ
  pub is_ready : get_or arrivals first None ≡ Some arrival
  pub no_earlier : (k n : ℕ) → get_or arrivals k None ≡ Some n → arrival ≤ n

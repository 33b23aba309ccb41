-- What is seen of a wire in memory, and how it begins.
use Rattle.std.specs.Prelude.{◌≡◌, ℕ, ◌^◌, ◌≤◌, min, Bool, false, if◌then◌else◌, List, [], length, Some}
use Rattle.xv_wire.specs.Wire.{WireCall, Plan, Counted, transit_after, counted_after}
use Rattle.xv_wire.specs.Told.{Told}
use Rattle.xv_base.specs.Calls.{next_count}
use Rattle.xv_wire.specs.Lengths.{InTransit, total}

-- at most so many bytes in transit, at most so many a take, and what is counted
pub record Pipe : Type 0 where
  pub capacity : ℕ
  pub piece : ℕ
  pub transit : List ℕ
  pub counted : Counted
  pub faults : ℕ

-- nothing is in transit and nothing is counted
abbrev pub fresh : ℕ → ℕ → Plan → Pipe
fresh c p plan' = record {
  capacity = c;
  piece = p;
  transit = [];
  counted = record { plan = plan'; puts = 0; pieces = 0; left = []; met = false };
  faults = 0;
}

-- after a call that failed or did not
abbrev pub after : WireCall → Bool → Pipe → Pipe
after call failed p = record p {
  transit = transit_after call failed p.transit;
  counted = counted_after call failed p.counted;
  faults = if failed then next_count p.faults else p.faults;
}

-- how many bytes a take gives into so much room
abbrev pub given : Pipe → ℕ → ℕ
given p room = min (min p.piece room) (length p.transit)

-- the bytes in transit are those of the pieces, for as many of which there is room as have the capacity's bytes
pub record IsPipe (capacity piece : ℕ) (transit : List ℕ) (room : ℕ) (pieces : InTransit) (puts sent : ℕ) : Type 0 where
  pub gives : 1 ≤ piece
  pub roomy : room ≡ capacity
  pub within : length transit ≤ capacity
  pub whole : total pieces.left ≡ length transit
  pub as_many : pieces.most ≡ capacity
  pub put : length pieces.left ≤ sent
  pub called : sent ≤ puts
  pub countable : puts ≤ 2 ^ 63
  pub met_some : pieces.left ≡ [] → pieces.met ≡ false

-- it tells all
abbrev pub told : Pipe → Told
told p = record { capacity = p.capacity; transit = p.transit; counted = Some p.counted }

-- What a hold keeps: its parts as plain values, what is seen of them, and what holds of them.
use Rattle.std.specs.Prelude.{◌≡◌, ◌<◌, ◌^◌, ℕ, ◌+◌, ◌==◌, List, length, map, sum, set, get_or, count_by, Option, Some, None, if◌then◌else◌}
use Rattle.xv_base.specs.Units.{Shape, units, max_size}
use Rattle.xv_base.specs.Layout.{IsGood}
use Rattle.xv_slots.specs.Row.{Row}
use Rattle.xv_hold.specs.declared.hold.Held.{Held}
use Rattle.xv_hold.specs.Messages.{Message, Hold, is_of}
use Rattle.xv_hold.specs.Arrival.{in_slot, messages_of}
use Rattle.xv_hold.specs.Chains.{IsChained, IsEnd, link}

pub record State : Type 0 where
  pub shape : Shape
  pub limit : ℕ
  pub slots : List (Option Held)
  pub links : List (Option ℕ)
  pub ends : List (Option ℕ)
  pub row : Row
  pub ready : List (Option ℕ)
  pub free : List ℕ
  pub applied : List ℕ
  pub recorded : List ℕ
  pub counts : List ℕ
  pub arrivals : ℕ

-- the messages in order of arrival, and all that is seen
abbrev pub messages : State → List Message
messages s = messages_of s.shape s.row s.slots s.arrivals

abbrev pub seen_of : State → Hold
seen_of s = record { shape = s.shape; limit = s.limit; messages = messages s; applied = s.applied; recorded = s.recorded }

-- the number by which a slot is ready once this version of its message's unit was written: that of the message's
-- arrival, where its version is one more
abbrev pub ready_after : ℕ → Option Held → Option ℕ
ready_after version None = None
ready_after version (Some h) = if h.head.version == version + 1 then Some h.arrival else None

-- and by the versions that were written
abbrev pub ready_by : List ℕ → Option Held → Option ℕ
ready_by applied None = None
ready_by applied (Some h) = ready_after (get_or applied h.head.unit.0 0) (Some h)

-- the ready slots after this version was written, whose chain leads on to a slot
abbrev pub with_next : List (Option Held) → Option ℕ → ℕ → List (Option ℕ) → List (Option ℕ)
with_next slots None version ready = ready
with_next slots (Some next) version ready = set ready next (ready_after version (in_slot slots next))

-- a message is of a unit of the layout, not written yet, and numbered
pub record IsHeldIn (s : State) (h : Held) : Type 0 where
  pub unit_in : h.head.unit.0 < units s.shape
  pub unwritten : get_or s.applied h.head.unit.0 0 < h.head.version
  pub numbered : h.arrival < s.arrivals

pub record IsKept (s : State) : Type 0 where
  pub good : IsGood s.shape
  pub small : s.limit < 2 ^ 32
  pub slot_each : length s.slots ≡ s.limit
  pub link_each : length s.links ≡ s.limit + units s.shape
  pub end_each : length s.ends ≡ units s.shape
  pub row_each : length s.row.slots ≡ s.limit
  pub width : s.row.width ≡ max_size s.shape
  pub applied_each : length s.applied ≡ units s.shape
  pub recorded_each : length s.recorded ≡ units s.shape
  pub count_each : length s.counts ≡ units s.shape
  pub versions : (u : ℕ) → get_or s.applied u 0 < 2 ^ 32
  pub held_in : (k : ℕ) (h : Held) → in_slot s.slots k ≡ Some h → IsHeldIn s h
  pub arrived_once : (k j : ℕ) (h g : Held) → in_slot s.slots k ≡ Some h → in_slot s.slots j ≡ Some g → h.arrival ≡ g.arrival → k ≡ j
  pub version_once : (k j : ℕ) (h g : Held) → in_slot s.slots k ≡ Some h → in_slot s.slots j ≡ Some g
      → h.head.unit.0 ≡ g.head.unit.0 → h.head.version ≡ g.head.version → k ≡ j
  pub chained : IsChained s.slots s.links s.applied
  pub ended : (u : ℕ) → u < units s.shape → IsEnd s.slots s.links u (link s.ends u)
  pub ready_are : s.ready ≡ map (ready_by s.applied) s.slots
  pub free_in : (i : ℕ) → i < length s.free → get_or s.free i 0 < s.limit
  pub free_empty : (i : ℕ) → i < length s.free → in_slot s.slots (get_or s.free i 0) ≡ None
  pub free_once : (i j : ℕ) → i < length s.free → j < length s.free → get_or s.free i 0 ≡ get_or s.free j 0 → i ≡ j
  pub others_held : length s.free + length (messages s) ≡ s.limit
  pub arrivals_are : s.arrivals ≡ length (messages s) + sum s.applied
  pub counted : (u : ℕ) → get_or s.counts u 0 ≡ count_by (λ m. is_of u m.head) (messages s)

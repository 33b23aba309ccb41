-- The slots in order of arrival.
use Rattle.std.specs.Prelude.{ℕ, zero, suc, ◌==◌, Bool, false, List, [], ◌++◌, map, take, get_or, position, Option, Some, None}
use Rattle.std.specs.Option.{option_to_list}
use Rattle.xv_base.specs.Units.{Shape, size}
use Rattle.xv_slots.specs.Row.{Row, content}
use Rattle.xv_hold.specs.declared.hold.Held.{Held}
use Rattle.xv_hold.specs.Messages.{UnitHead, Message, no_head}

-- what a slot holds
abbrev pub in_slot : List (Option Held) → ℕ → Option Held
in_slot slots k = get_or slots k None

abbrev pub head_of : Option Held → UnitHead
head_of None = no_head
head_of (Some h) = h.head

-- whether what a slot holds arrived as this number, and the slots of the messages that arrived before it, in order
abbrev pub arrived_as : ℕ → Option Held → Bool
arrived_as n None = false
arrived_as n (Some h) = h.arrival == n

abbrev pub slot_of : List (Option Held) → ℕ → Option ℕ
slot_of slots n = position (arrived_as n) slots

abbrev pub in_order : List (Option Held) → ℕ → List ℕ
in_order slots zero = []
in_order slots (suc n) = in_order slots n ++ option_to_list (slot_of slots n)

-- the messages in these slots; a content is the first bytes of its slot, as many as its unit has
abbrev pub message_in : Shape → Row → List (Option Held) → ℕ → Message
message_in s row slots k = record {
  slot = k;
  head = head_of (in_slot slots k);
  content = take (size s (head_of (in_slot slots k)).unit.0) (content row k);
}

abbrev pub messages_of : Shape → Row → List (Option Held) → ℕ → List Message
messages_of s row slots arrivals = map (message_in s row slots) (in_order slots arrivals)

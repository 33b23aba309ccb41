-- How the messages of an outbox lie: a queue of heads, each with the slot of its content, round a row of slots.
use Rattle.std.specs.Prelude.{◌≡◌, ◌<◌, ◌≤◌, ℕ, ◌+◌, ◌-◌, ◌^◌, ◌⊎◌, ◌==◌, List, length, map, take, get_or, count_by}
use Rattle.xv_base.specs.Units.{Shape, units, size, max_size}
use Rattle.xv_base.specs.Layout.{IsGood}
use Rattle.xv_slots.specs.Row.{Row, content}
use Rattle.xv_outbox.specs.declared.outbox.Queued.{Queued}
use Rattle.xv_outbox.specs.Messages.{Message, no_head}

-- the message of an entry of the queue: its content is the first bytes of its slot, as many as its unit has
abbrev pub message_of : Shape → Row → Queued → Message
message_of s row q = record { head = q.head; content = take (size s q.head.unit.0) (content row q.slot) }

abbrev pub messages_of : Shape → Row → List Queued → List Message
messages_of s row queue = map (message_of s row) queue

abbrev pub no_entry : Queued
no_entry = record { head = no_head; slot = 0 }

abbrev pub entry : List Queued → ℕ → Queued
entry queue i = get_or queue i no_entry

-- `slot` is so many places before `next` round a row of n slots
abbrev pub IsBefore : ℕ → ℕ → ℕ → ℕ → Type 0
IsBefore n next back slot = (slot + back ≡ next) ⊎ (slot + back ≡ next + n)

-- what an outbox of this limit keeps: each entry lies in a slot of its own, one after another up to the next one
pub record IsLaid (s : Shape) (limit : ℕ) (queue : List Queued) (capacity : ℕ) (row : Row) (next : ℕ) (issued : List ℕ) : Type 0 where
  pub good : IsGood s
  pub small : limit < 2 ^ 32
  pub reserved : capacity ≡ limit
  pub within : length queue ≤ limit
  pub slots : length row.slots ≡ limit
  pub width : row.width ≡ max_size s
  pub per_unit : length issued ≡ units s
  pub next_in : 0 < limit → next < limit
  pub units_in : (i : ℕ) → i < length queue → (entry queue i).head.unit.0 < units s
  pub slots_in : (i : ℕ) → i < length queue → (entry queue i).slot < limit
  pub in_turn : (i : ℕ) → i < length queue → IsBefore limit next (length queue - i) (entry queue i).slot

-- and for each unit how many of its messages are in the queue
pub record IsCounted (s : Shape) (queue : List Queued) (counts : List ℕ) : Type 0 where
  pub each : length counts ≡ units s
  pub counted : (u : ℕ) → get_or counts u 0 ≡ count_by (λ q. q.head.unit.0 == u) queue

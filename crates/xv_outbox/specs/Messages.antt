-- What is seen of an outbox.
use Rattle.std.specs.Prelude.{ℕ, ◌+◌, ◌-◌, ◌==◌, List, [], ◌∷◌, ◌++◌, length, map, drop, set, replicate, get_or, count_by}
use Rattle.xv_base.specs.Units.{Shape, units}
pub use Rattle.xv_base.specs.declared.operation.UnitHead.{UnitHead}
pub use Rattle.xv_base.specs.Message.{Message, no_head, no_message}

-- the units, how many messages there may be, those made and not sent, in order, and for each unit the versions made
pub record Outbox : Type 0 where
  pub shape : Shape
  pub limit : ℕ
  pub messages : List Message
  pub issued : List ℕ

-- the heads of messages, and their contents
abbrev pub heads : List Message → List UnitHead
heads messages = map (λ m. m.head) messages

abbrev pub contents : List Message → List (List ℕ)
contents messages = map (λ m. m.content) messages

-- the message at a place from the front, with something in the place of what is not there
abbrev pub message : Outbox → ℕ → Message
message o i = get_or o.messages i no_message

-- how many versions of a unit were made, how many of its messages are there, and how many places are free
abbrev pub issued : Outbox → ℕ → ℕ
issued o unit = get_or o.issued unit 0

abbrev pub count : Outbox → ℕ → ℕ
count o unit = count_by (λ m. m.head.unit.0 == unit) o.messages

abbrev pub room : Outbox → ℕ
room o = o.limit - length o.messages

-- an outbox that nothing was put into
abbrev pub fresh : Shape → ℕ → Outbox
fresh s most = record { shape = s; limit = most; messages = []; issued = replicate (units s) 0 }

-- a message of the unit's next version, and the outbox with it at its end
abbrev pub next_message : Outbox → ℕ → ℕ → List ℕ → Message
next_message o unit at content = record { head = record { unit = record { 0 = unit }; version = issued o unit + 1; at = at }; content = content }

abbrev pub made : Outbox → ℕ → ℕ → List ℕ → Outbox
made o unit at content = record o {
  messages = o.messages ++ next_message o unit at content ∷ [];
  issued = set o.issued unit (issued o unit + 1);
}

-- the front is gone
abbrev pub taken : Outbox → Outbox
taken o = record o { messages = drop 1 o.messages }

-- What is seen of a hold.
use Rattle.std.specs.Prelude.{ℕ, ◌+◌, ◌-◌, ◌==◌, ◌&&◌, nat_lt, Bool, List, [], ◌∷◌, ◌++◌, length, map, set, remove, replicate, get_or, count_by, Option, Some, None, if◌then◌else◌}
use Rattle.std.specs.List.{position_or_len}
use Rattle.xv_base.specs.Units.{Shape, units}
pub use Rattle.xv_base.specs.declared.operation.UnitHead.{UnitHead}

-- a message that is held: the slot that it lies in; its unit, version and `at`; its content
pub record Message : Type 0 where
  pub slot : ℕ
  pub head : UnitHead
  pub content : List ℕ

-- the units, how many messages may be held, those held in order of arrival, and for each unit the version that was
-- written last, 0 where none was, and its `at`
pub record Hold : Type 0 where
  pub shape : Shape
  pub limit : ℕ
  pub messages : List Message
  pub applied : List ℕ
  pub recorded : List ℕ

-- the heads of messages, and their contents
abbrev pub heads : List Message → List UnitHead
heads messages = map (λ m. m.head) messages

abbrev pub contents : List Message → List (List ℕ)
contents messages = map (λ m. m.content) messages

-- what stands for a message that is not there
abbrev pub no_head : UnitHead
no_head = record { unit = record { 0 = 0 }; version = 0; at = 0 }

abbrev pub no_message : Message
no_message = record { slot = 0; head = no_head; content = [] }

-- the version of a unit that was written last, and its `at`
abbrev pub version : Hold → ℕ → ℕ
version h unit = get_or h.applied unit 0

abbrev pub at : Hold → ℕ → ℕ
at h unit = get_or h.recorded unit 0

-- how many messages of a unit are held, and how many of a unit and version
abbrev pub is_of : ℕ → UnitHead → Bool
is_of unit head = head.unit.0 == unit

abbrev pub count : Hold → ℕ → ℕ
count h unit = count_by (λ m. is_of unit m.head) h.messages

abbrev pub is_version : ℕ → ℕ → UnitHead → Bool
is_version unit version head = is_of unit head && (head.version == version)

abbrev pub copies : Hold → ℕ → ℕ → ℕ
copies h unit version = count_by (λ m. is_version unit version m.head) h.messages

-- whether a message is its unit's next version, and the place of the first such in order of arrival
abbrev pub is_next : List ℕ → UnitHead → Bool
is_next applied head = head.version == get_or applied head.unit.0 0 + 1

abbrev pub ready_place : Hold → ℕ
ready_place h = position_or_len (λ m. is_next h.applied m.head) h.messages

abbrev pub is_ready : Hold → Bool
is_ready h = nat_lt (ready_place h) (length h.messages)

abbrev pub ready_message : Hold → Message
ready_message h = get_or h.messages (ready_place h) no_message

abbrev pub ready_slot : Hold → Option ℕ
ready_slot h = if is_ready h then Some (ready_message h).slot else None

-- a hold that nothing was put into
abbrev pub fresh : Shape → ℕ → Hold
fresh s most = record { shape = s; limit = most; messages = []; applied = replicate (units s) 0; recorded = replicate (units s) 0 }

-- one message more, in this slot, and the slot of the last message
abbrev pub arrived : Hold → ℕ → UnitHead → List ℕ → Hold
arrived h slot head content = record h { messages = h.messages ++ record { slot = slot; head = head; content = content } ∷ [] }

abbrev pub last_slot : Hold → ℕ
last_slot h = (get_or h.messages (length h.messages - 1) no_message).slot

-- the first message that is ready was written
abbrev pub written : Hold → Hold
written h = record h {
  messages = remove h.messages (ready_place h);
  applied = set h.applied (ready_message h).head.unit.0 (ready_message h).head.version;
  recorded = set h.recorded (ready_message h).head.unit.0 (ready_message h).head.at;
}

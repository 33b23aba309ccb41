-- What a frame is, and its one spelling.
use Rattle.std.specs.Prelude.{◌≡◌, ℕ, ◌^◌, ◌<◌, ◌≤◌, ⊤, List, [], ◌∷◌, ◌++◌, length, replicate, if◌then◌else◌}
use Rattle.std.specs.List.{flat_map}
pub use Rattle.xv_base.specs.Message.{Message, message}
use Rattle.xv_base.specs.declared.operation.UnitHead.{UnitHead}
use Rattle.xv_base.specs.declared.limits.TheConstants.{MOST_CREDIT, MOST_GROUP, SINGLE_FORMAT, GROUP_FORMAT}
use Rattle.xv_base.specs.Units.{Shape, units, size}
use Rattle.xv_frame.specs.declared.codes.TheConstants.{MESSAGE_KIND, ACK_KIND, CONTENT_MARK, ZERO_MARK}
use Rattle.xv_frame.specs.Fields.{short_bytes, word_bytes, long_bytes, all_zero}

-- one message by itself, a count of messages that were written, or some messages together
pub data Frame : Type 0 where
  UnitFrame : Message → Frame
  AckFrame : ℕ → Frame
  GroupFrame : List Message → Frame

-- each item of a list is so
abbrev pub Each : {A : Type 0} → (A → Type 0) → List A → Type 0
Each P [] = ⊤
Each P (x ∷ xs) = P x × Each P xs

-- a unit of the layout, a version that was made, and a whole content
pub record IsMessage (s : Shape) (m : Message) : Type 0 where
  pub unit_in : m.head.unit.0 < units s
  pub made : 1 ≤ m.head.version
  pub version_fits : m.head.version < 2 ^ 32
  pub at_fits : m.head.at < 2 ^ 64
  pub whole : length m.content ≡ size s m.head.unit.0

pub record IsGroup (s : Shape) (messages : List Message) : Type 0 where
  pub some : 1 ≤ length messages
  pub few : length messages ≤ MOST_GROUP
  pub each : Each (IsMessage s) messages

abbrev pub IsFrame : Shape → Frame → Type 0
IsFrame s (UnitFrame m) = IsMessage s m
IsFrame s (AckFrame count) = (1 ≤ count) × (count ≤ MOST_CREDIT)
IsFrame s (GroupFrame messages) = IsGroup s messages

-- before a content: format, kind, zeros, unit, version, length and the number `at`
abbrev pub unit_head : UnitHead → ℕ → List ℕ
unit_head h count = SINGLE_FORMAT ∷ MESSAGE_KIND ∷ 0 ∷ 0 ∷ (word_bytes h.unit.0 ++ (word_bytes h.version ++ (word_bytes count ++ long_bytes h.at)))

-- an acknowledgement: format, kind and zeros, the count between zeros
abbrev pub ack : ℕ → List ℕ
ack count = SINGLE_FORMAT ∷ ACK_KIND ∷ 0 ∷ 0 ∷ 0 ∷ 0 ∷ 0 ∷ 0 ∷ (word_bytes count ++ replicate 12 0)

-- before the entries of a group: format, kind, how many entries, how many bytes they have, and zeros
abbrev pub group_head : ℕ → ℕ → List ℕ
group_head count bytes = GROUP_FORMAT ∷ MESSAGE_KIND ∷ (short_bytes count ++ (word_bytes bytes ++ replicate 16 0))

-- one message of a group: its numbers, the mark and zeros, and its content where that is not all zero
abbrev pub entry_head : UnitHead → ℕ → List ℕ
entry_head h mark = word_bytes h.unit.0 ++ (word_bytes h.version ++ (long_bytes h.at ++ (mark ∷ 0 ∷ 0 ∷ 0 ∷ [])))

abbrev pub entry : Message → List ℕ
entry m = if all_zero m.content then entry_head m.head ZERO_MARK else entry_head m.head CONTENT_MARK ++ m.content

abbrev pub entries : List Message → List ℕ
entries messages = flat_map entry messages

-- the bytes of a frame, and of frames one after another
abbrev pub spelled : Frame → List ℕ
spelled (UnitFrame m) = unit_head m.head (length m.content) ++ m.content
spelled (AckFrame count) = ack count
spelled (GroupFrame messages) = group_head (length messages) (length (entries messages)) ++ entries messages

abbrev pub all_spelled : List Frame → List ℕ
all_spelled frames = flat_map spelled frames

-- What the bytes of a stream are: the spellings of the frames that carry its groups.
use Rattle.std.specs.Prelude.{◌≡◌, ℕ, ◌+◌, ◌*◌, ◌≤◌, ◌==◌, List, [], ◌∷◌, ◌++◌, length, map, if◌then◌else◌}
use Rattle.std.specs.List.{flat_map, sum_by}
use Rattle.xv_base.specs.declared.limits.TheConstants.{MOST_GROUP, SINGLE_FORMAT}
use Rattle.xv_base.specs.Units.{Shape, max_size}
use Rattle.xv_frame.specs.declared.codes.TheConstants.{HEAD_SIZE, ENTRY_HEAD_SIZE}
use Rattle.xv_frame.specs.Frame.{Message, Frame, UnitFrame, GroupFrame, Each, IsFrame, IsMessage, spelled, all_spelled}
use Rattle.xv_streams.specs.Streamed.{LaneSeen}

-- the frame that carries a group, which in format 1 is of one message, and the frames that carry some
abbrev pub frame_of : ℕ → List Message → Frame
frame_of format [] = GroupFrame []
frame_of format (m ∷ ms) = if format == SINGLE_FORMAT then UnitFrame m else GroupFrame (m ∷ ms)

abbrev pub frames_of : ℕ → List (List Message) → List Frame
frames_of format groups = map (frame_of format) groups

-- how many messages a group has at most, and how many bytes of its frame there are to each at most
abbrev pub most_messages : ℕ → ℕ
most_messages format = if format == SINGLE_FORMAT then 1 else MOST_GROUP

abbrev pub most_bytes : Shape → ℕ → ℕ
most_bytes s format = if format == SINGLE_FORMAT then HEAD_SIZE + max_size s else HEAD_SIZE + ENTRY_HEAD_SIZE + max_size s

-- the messages on a stream
abbrev pub joined : List (List Message) → List Message
joined groups = flat_map (λ g. g) groups

-- the bytes gathered of the first frame and those in transit are exactly the spellings of the groups' frames; so their number
-- is the sum of the frames', and at most so many for each message
pub record IsCarried (s : Shape) (format : ℕ) (l : LaneSeen) : Type 0 where
  pub stand : l.gathered ++ l.wire.transit ≡ all_spelled (frames_of format l.groups)
  pub frames : Each (IsFrame s) (frames_of format l.groups)
  pub messages : Each (IsMessage s) (joined l.groups)
  pub sizes : Each (λ g. (1 ≤ length g) × (length g ≤ most_messages format)) l.groups
  pub bytes : length l.gathered + length l.wire.transit ≡ sum_by (λ f. length (spelled f)) (frames_of format l.groups)
  pub few_bytes : length l.gathered + length l.wire.transit ≤ length (joined l.groups) * most_bytes s format

-- a group that is being made has at most `MOST_GROUP` messages; its frame, once there is one, has at most so many bytes for each
pub record IsMade (s : Shape) (messages : List Message) : Type 0 where
  pub few : length messages ≤ MOST_GROUP
  pub each : Each (IsMessage s) messages
  pub few_bytes : 1 ≤ length messages → length (spelled (GroupFrame messages)) ≤ length messages * (HEAD_SIZE + ENTRY_HEAD_SIZE + max_size s)

-- What is seen of some streams.
use Rattle.std.specs.Prelude.{◌≡◌, ℕ, ◌+◌, ◌*◌, ◌-◌, ◌<◌, ◌≤◌, ◌==◌, Bool, List, [], ◌∷◌, ◌++◌, length, map, set, drop, get_or, Option, Some, None, Result, IfOk, IfErr, IfSome, is_err, ⊤, if◌then◌else◌}
pub use Rattle.xv_base.specs.Message.{no_message}
use Rattle.xv_base.specs.declared.operation.UnitHead.{UnitHead}
use Rattle.xv_base.specs.declared.unit.Failed.{Failed}
use Rattle.xv_base.specs.declared.limits.TheConstants.{MOST_GROUP, SINGLE_FORMAT, GROUP_FORMAT}
use Rattle.xv_base.specs.Units.{Shape, units, size, max_size}
use Rattle.xv_frame.specs.declared.codes.TheConstants.{HEAD_SIZE, ENTRY_HEAD_SIZE}
use Rattle.xv_frame.specs.Frame.{Message, IsMessage, Frame, UnitFrame, AckFrame, GroupFrame, Each, spelled}
use Rattle.xv_frame.specs.Reading.{frames_in}
use Rattle.xv_wire.specs.Wire.{PutBytes}
use Rattle.xv_wire.specs.Told.{Told, CallMade}
use Rattle.xv_streams.specs.Gathered.{Gathered}
use Rattle.xv_streams.specs.Taking.{TakesMade}
use Rattle.xv_streams.specs.Lanes.{IsLane, wanted}

-- one stream: the groups of messages on the way, in order, the bytes gathered of the first, and its wire
pub record LaneSeen : Type 0 where
  pub groups : List (List Message)
  pub gathered : List ℕ
  pub wire : Told
  pub faults : ℕ

-- the layout, the format of the frames, the streams, the group that is being made, and the messages of the group that was
-- received last, which are lent
pub record Streamed : Type 0 where
  pub shape : Shape
  pub format : ℕ
  pub lanes : List LaneSeen
  pub making : List Message
  pub got : List Message

-- the messages of a frame, and the format that it is of
abbrev pub messages_of : Frame → List Message
messages_of (UnitFrame m) = m ∷ []
messages_of (AckFrame count) = []
messages_of (GroupFrame messages) = messages

abbrev pub format_of : Frame → ℕ
format_of (UnitFrame m) = SINGLE_FORMAT
format_of (AckFrame count) = 0
format_of (GroupFrame messages) = GROUP_FORMAT

-- how many bytes the greatest frame has
abbrev pub frame_room : Shape → ℕ → ℕ
frame_room s format = if format == SINGLE_FORMAT then HEAD_SIZE + max_size s else HEAD_SIZE + MOST_GROUP * (ENTRY_HEAD_SIZE + max_size s)

abbrev pub seen_lane : Shape → Told → ℕ → Gathered → LaneSeen
seen_lane s told failed l = record { groups = map messages_of (frames_in s (l.bytes ++ told.transit)); gathered = l.bytes; wire = told; faults = failed }

abbrev pub seen_lanes : {A : Type 0} → (A → Told) → (A → ℕ) → Shape → List A → List Gathered → List LaneSeen
seen_lanes t f s [] ls = []
seen_lanes t f s (w ∷ ws) [] = []
seen_lanes t f s (w ∷ ws) (l ∷ ls) = seen_lane s (t w) (f w) l ∷ seen_lanes t f s ws ls

-- the frames on a stream are of the format, and as many as are counted
pub record IsLaneOf (s : Shape) (format : ℕ) (told : Told) (l : Gathered) : Type 0 where
  pub lane : IsLane s l.room l.bytes told.transit
  pub kinds : Each (λ f. format_of f ≡ format) (frames_in s (l.bytes ++ told.transit))
  pub counted : l.waiting ≡ length (frames_in s (l.bytes ++ told.transit))
  pub roomy : l.room ≡ frame_room s format

abbrev pub AreLanesOf : {A : Type 0} → (A → Told) → Shape → ℕ → List A → List Gathered → Type 0
AreLanesOf t s format [] [] = ⊤
AreLanesOf t s format [] (l ∷ ls) = ⊥
AreLanesOf t s format (w ∷ ws) [] = ⊥
AreLanesOf t s format (w ∷ ws) (l ∷ ls) = IsLaneOf s format (t w) l × AreLanesOf t s format ws ls

-- what stands for a stream that is not there
abbrev pub no_lane : LaneSeen
no_lane = record { groups = []; gathered = []; wire = record { capacity = 0; transit = []; counted = None }; faults = 0 }

abbrev pub lane : Streamed → ℕ → LaneSeen
lane s k = get_or s.lanes k no_lane

-- all stayed as it was but for this stream; what else changes is said of the old state
abbrev pub OnlyLane : ℕ → Streamed → Streamed → Type 0
OnlyLane k old new = new ≡ record old { lanes = set old.lanes k (lane new k) }

-- the first message of a group, and its content
abbrev pub head_of_first : List Message → Option UnitHead
head_of_first [] = None
head_of_first (m ∷ ms) = Some m.head

abbrev pub content_of_first : List Message → List ℕ
content_of_first [] = []
content_of_first (m ∷ ms) = m.content

-- the first group on a stream
abbrev pub first_group : List (List Message) → List Message
first_group [] = []
first_group (g ∷ gs) = g

-- a frame was put on a stream, or the put failed
pub record FramePut (f : Frame) (failed : Bool) (old new : LaneSeen) : Type 0 where
  pub groups : new.groups ≡ (if failed then old.groups else old.groups ++ messages_of f ∷ [])
  pub gathered : new.gathered ≡ old.gathered
  pub made : CallMade (PutBytes (spelled f)) failed old.wire new.wire old.faults new.faults

-- a message was taken off a stream, or there was none, or a take failed; what is gathered stays, and the calls of the wire
-- were the takes of so many bytes
pub record MessageTaken (s : Shape) (result : Result (Option UnitHead) Failed) (content : List ℕ) (old new : LaneSeen) : Type 0 where
  pub groups : new.groups ≡ (if is_err result then old.groups else drop 1 old.groups)
  pub answer : IfOk result (λ it. it ≡ head_of_first (first_group old.groups))
  pub none : IfOk result (λ it. it ≡ None → old.groups ≡ [])
  pub content_is : IfOk result (λ it. content ≡ content_of_first (first_group old.groups))
  pub in_range : IfOk result (λ it. IfSome it (λ h. (h.unit.0 < units s) × (length content ≡ size s h.unit.0)))
  pub gathered : IfOk result (λ it. new.gathered ≡ [])
  pub kept : IfErr result (λ e. new.gathered ++ new.wire.transit ≡ old.gathered ++ old.wire.transit)
  pub made : TakesMade (length old.wire.transit - length new.wire.transit) (is_err result) (wanted (frames_in s (old.gathered ++ old.wire.transit)) (length old.gathered)) old.wire new.wire old.faults new.faults

-- a group was taken off a stream, or there was none, or a take failed, in the same way; it has from 1 to `MOST_GROUP` messages
pub record GroupTaken (s : Shape) (result : Result ℕ Failed) (old new : LaneSeen) : Type 0 where
  pub groups : new.groups ≡ (if is_err result then old.groups else drop 1 old.groups)
  pub answer : IfOk result (λ n. n ≡ length (first_group old.groups))
  pub none : IfOk result (λ n. n ≡ 0 → old.groups ≡ [])
  pub few : IfOk result (λ n. n ≤ MOST_GROUP)
  pub each : IfOk result (λ n. Each (IsMessage s) (first_group old.groups))
  pub gathered : IfOk result (λ n. new.gathered ≡ [])
  pub kept : IfErr result (λ e. new.gathered ++ new.wire.transit ≡ old.gathered ++ old.wire.transit)
  pub made : TakesMade (length old.wire.transit - length new.wire.transit) (is_err result) (wanted (frames_in s (old.gathered ++ old.wire.transit)) (length old.gathered)) old.wire new.wire old.faults new.faults

-- the messages that are lent after a receipt: those of the first group, and none where a take failed
abbrev pub lent : Bool → LaneSeen → List Message
lent failed l = if failed then [] else first_group l.groups

-- the message at a place
abbrev pub message_at : List Message → ℕ → Message
message_at messages i = get_or messages i no_message

-- a stream on which nothing is
abbrev pub fresh_lane : Told → ℕ → LaneSeen
fresh_lane told failed = record { groups = []; gathered = []; wire = told; faults = failed }

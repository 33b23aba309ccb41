-- The frame that bytes begin with, if they begin with one.
use Rattle.std.specs.Prelude.{ℕ, zero, suc, ◌+◌, ◌==◌, Bool, List, [], ◌∷◌, length, take, drop, replicate, if◌then◌else◌}
use Rattle.xv_base.specs.declared.operation.UnitHead.{UnitHead}
use Rattle.xv_base.specs.declared.limits.TheConstants.{GROUP_FORMAT}
use Rattle.xv_base.specs.Units.{Shape, size}
use Rattle.xv_frame.specs.declared.codes.TheConstants.{HEAD_SIZE, ENTRY_HEAD_SIZE, ACK_KIND, ZERO_MARK}
use Rattle.xv_frame.specs.Fields.{byte_at, short_at, word_at, long_at}
use Rattle.xv_frame.specs.Frame.{Message, message, Frame, UnitFrame, AckFrame, GroupFrame, spelled}

-- the numbers of a unit frame, and its message
abbrev pub front_head : List ℕ → UnitHead
front_head bytes = record { unit = record { 0 = word_at bytes 4 }; version = word_at bytes 8; at = long_at bytes 16 }

abbrev pub front_message : Shape → List ℕ → Message
front_message s bytes = message (front_head bytes) (take (size s (word_at bytes 4)) (drop HEAD_SIZE bytes))

-- the numbers of an entry of a group, its message, and how many bytes it has
abbrev pub entry_numbers : List ℕ → UnitHead
entry_numbers bytes = record { unit = record { 0 = word_at bytes 0 }; version = word_at bytes 4; at = long_at bytes 8 }

abbrev pub is_marked : List ℕ → Bool
is_marked bytes = byte_at bytes 16 == ZERO_MARK

abbrev pub entry_message : Shape → List ℕ → Message
entry_message s bytes = message (entry_numbers bytes)
    (if is_marked bytes then replicate (size s (word_at bytes 0)) 0 else take (size s (word_at bytes 0)) (drop ENTRY_HEAD_SIZE bytes))

abbrev pub entry_size : Shape → List ℕ → ℕ
entry_size s bytes = if is_marked bytes then ENTRY_HEAD_SIZE else ENTRY_HEAD_SIZE + size s (word_at bytes 0)

-- so many entries, and the messages of a group
abbrev pub front_entries : Shape → ℕ → List ℕ → List Message
front_entries s zero bytes = []
front_entries s (suc n) bytes = entry_message s bytes ∷ front_entries s n (drop (entry_size s bytes) bytes)

abbrev pub front_group : Shape → List ℕ → List Message
front_group s bytes = front_entries s (short_at bytes 2) (drop HEAD_SIZE bytes)

abbrev pub front_frame : Shape → List ℕ → Frame
front_frame s bytes =
    if byte_at bytes 0 == GROUP_FORMAT then GroupFrame (front_group s bytes)
    else (if byte_at bytes 1 == ACK_KIND then AckFrame (word_at bytes 8) else UnitFrame (front_message s bytes))

-- the frames that bytes spell one after another, at most so many
abbrev pub some_frames : Shape → ℕ → List ℕ → List Frame
some_frames s zero bytes = []
some_frames s (suc n) [] = []
some_frames s (suc n) (b ∷ bs) =
    let front = front_frame s (b ∷ bs) in front ∷ some_frames s n (drop (length (spelled front)) (b ∷ bs))

-- each frame has a byte at least
abbrev pub frames_in : Shape → List ℕ → List Frame
frames_in s bytes = some_frames s (length bytes) bytes

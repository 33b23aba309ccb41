-- The group that is being made in a buffer, and the messages of one that was received, each in a place of its own.
use Rattle.std.specs.Prelude.{◌≡◌, ℕ, ◌+◌, ◌≤◌, ◌==◌, List, [], length, take, drop, replicate, if◌then◌else◌}
use Rattle.xv_base.specs.declared.limits.TheConstants.{MOST_GROUP, SINGLE_FORMAT, GROUP_FORMAT}
use Rattle.xv_base.specs.Units.{Shape, max_size}
use Rattle.xv_base.specs.Layout.{IsGood}
use Rattle.xv_frame.specs.declared.codes.TheConstants.{HEAD_SIZE}
use Rattle.xv_frame.specs.Frame.{Message, Each, IsMessage, entries}
use Rattle.xv_frame.specs.Reading.{front_entries}
use Rattle.xv_wire.specs.Told.{Told}
use Rattle.xv_streams.specs.Gathered.{Gathered}
use Rattle.xv_streams.specs.Streamed.{frame_room, AreLanesOf}

-- a message, and for how many bytes of content its place has room
pub record Place : Type 0 where
  pub message : Message
  pub room : ℕ

-- the messages received last, and the room of each place
pub record Received : Type 0 where
  pub messages : List Message
  pub rooms : List ℕ

-- how many messages may be received together
abbrev pub most_received : ℕ → ℕ
most_received format = if format == SINGLE_FORMAT then 0 else MOST_GROUP

-- the messages of so many entries behind the place of a head
abbrev pub messages_in : Shape → ℕ → List ℕ → List Message
messages_in s count frame = front_entries s count (drop HEAD_SIZE frame)

-- the group being made: its entries, and where they end; there is none where messages go one at a time
pub record IsMaking (s : Shape) (format count end : ℕ) (frame : List ℕ) : Type 0 where
  pub few : count ≤ MOST_GROUP
  pub ends : end ≡ HEAD_SIZE + length (entries (messages_in s count frame))
  pub laid : take (length (entries (messages_in s count frame))) (drop HEAD_SIZE frame) ≡ entries (messages_in s count frame)
  pub each : Each (IsMessage s) (messages_in s count frame)
  pub none : format ≡ SINGLE_FORMAT → count ≡ 0

-- the messages received, in places for the greatest content
pub record IsReceived (s : Shape) (format : ℕ) (r : Received) : Type 0 where
  pub rooms : r.rooms ≡ replicate (most_received format) (max_size s)
  pub each : Each (IsMessage s) r.messages
  pub none : format ≡ SINGLE_FORMAT → r.messages ≡ []

-- what some streams keep
pub record AreStreams {A : Type 0} (t : A → Told) (s : Shape) (format : ℕ) (ws : List A) (ls : List Gathered) (frame : List ℕ) (count end : ℕ) (r : Received) : Type 0 where
  pub lanes : AreLanesOf t s format ws ls
  pub good : IsGood s
  pub room : length frame ≡ frame_room s format
  pub formats : (SINGLE_FORMAT ≤ format) × (format ≤ GROUP_FORMAT)
  pub making : IsMaking s format count end frame
  pub got : IsReceived s format r

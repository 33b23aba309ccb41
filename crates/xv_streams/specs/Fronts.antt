-- What stands on streams as heads and as contents, and the front of one taken off, whatever the format.
use Rattle.std.specs.Prelude.{◌≡◌, ℕ, ◌-◌, ◌*◌, ◌+◌, ◌≤◌, Bool, true, false, List, [], ◌∷◌, ◌++◌, length, map, drop, if◌then◌else◌}
use Rattle.xv_base.specs.Units.{Shape}
use Rattle.xv_base.specs.declared.operation.UnitHead.{UnitHead}
use Rattle.xv_frame.specs.Frame.{Message, spelled}
use Rattle.xv_frame.specs.Reading.{frames_in}
use Rattle.xv_wire.specs.Wire.{PutBytes}
use Rattle.xv_wire.specs.Told.{CallMade}
use Rattle.xv_streams.specs.Taking.{TakesMade}
use Rattle.xv_streams.specs.Lanes.{wanted}
use Rattle.xv_streams.specs.Streamed.{LaneSeen}
use Rattle.xv_streams.specs.Carried.{frame_of, joined, most_bytes}

-- the heads of all messages, and their contents, by stream and group
abbrev pub heads_of : List Message → List UnitHead
heads_of messages = map (λ m. m.head) messages

abbrev pub contents_of : List Message → List (List ℕ)
contents_of messages = map (λ m. m.content) messages

abbrev pub heads_on : List LaneSeen → List (List (List UnitHead))
heads_on lanes = map (λ l. map heads_of l.groups) lanes

abbrev pub contents_on : List LaneSeen → List (List (List (List ℕ)))
contents_on lanes = map (λ l. map contents_of l.groups) lanes

-- a group was put at the end of a stream as one frame, or the put failed
pub record PutsGroup (format : ℕ) (group : List Message) (failed : Bool) (old new : LaneSeen) : Type 0 where
  pub groups : new.groups ≡ (if failed then old.groups else old.groups ++ group ∷ [])
  pub gathered : new.gathered ≡ old.gathered
  pub made : CallMade (PutBytes (spelled (frame_of format group))) failed old.wire new.wire old.faults new.faults

-- there is room for so many messages more on a stream
abbrev pub HasRoomFor : Shape → ℕ → ℕ → LaneSeen → Type 0
HasRoomFor s format n l = (length (joined l.groups) + n) * most_bytes s format ≤ l.wire.capacity

-- the front of a stream was taken off, or a take failed and what is gathered stays; the calls of the wire were the takes of
-- so many bytes
pub record TakesFront (s : Shape) (failed : Bool) (old new : LaneSeen) : Type 0 where
  pub groups : new.groups ≡ (if failed then old.groups else drop 1 old.groups)
  pub gathered : failed ≡ false → new.gathered ≡ []
  pub kept : failed ≡ true → new.gathered ++ new.wire.transit ≡ old.gathered ++ old.wire.transit
  pub made : TakesMade (length old.wire.transit - length new.wire.transit) failed (wanted (frames_in s (old.gathered ++ old.wire.transit)) (length old.gathered)) old.wire new.wire old.faults new.faults

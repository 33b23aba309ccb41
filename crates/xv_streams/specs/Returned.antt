-- What is seen of the wire back.
use Rattle.std.specs.Prelude.{◌≡◌, ℕ, ◌≤◌, List, [], ◌∷◌, ◌++◌, ◌+◌, ◌-◌, ◌*◌, length, map, drop, Bool, true, false, Option, Some, None, Result, IfOk, IfErr, IfSome, is_err, if◌then◌else◌}
use Rattle.xv_base.specs.declared.limits.TheConstants.{MOST_CREDIT}
use Rattle.xv_base.specs.Units.{Shape, shape_of}
use Rattle.xv_base.specs.declared.unit.Failed.{Failed}
use Rattle.xv_frame.specs.declared.codes.TheConstants.{HEAD_SIZE}
use Rattle.xv_frame.specs.Frame.{Frame, UnitFrame, AckFrame, GroupFrame, Each, spelled, all_spelled}
use Rattle.xv_frame.specs.Reading.{frames_in}
use Rattle.xv_wire.specs.Wire.{PutBytes}
use Rattle.xv_wire.specs.Told.{Told, CallMade}
use Rattle.xv_streams.specs.Gathered.{Gathered}
use Rattle.xv_streams.specs.Taking.{TakesMade}
use Rattle.xv_streams.specs.Streamed.{frame_room, IsLaneOf}

-- the counts on the way, in order, the bytes gathered of the first, and the wire
pub record Returned : Type 0 where
  pub counts : List ℕ
  pub gathered : List ℕ
  pub wire : Told
  pub faults : ℕ

-- an acknowledgement names no unit, so that any layout serves to read one
abbrev pub any_shape : Shape
any_shape = shape_of 1 16 []

abbrev pub count_of : Frame → ℕ
count_of (UnitFrame m) = 0
count_of (AckFrame count) = count
count_of (GroupFrame messages) = 0

abbrev pub returned : List ℕ → Told → ℕ → Returned
returned bytes told failed = record { counts = map count_of (frames_in any_shape (bytes ++ told.transit)); gathered = bytes; wire = told; faults = failed }

-- the frames are acknowledgements, and as many as are counted
abbrev pub back_lane : List ℕ → ℕ → Gathered
back_lane bytes n = record { bytes = bytes; room = frame_room any_shape 0; waiting = n }

abbrev pub IsBack : List ℕ → Told → ℕ → Type 0
IsBack gathered told waiting = IsLaneOf any_shape 0 told (back_lane gathered waiting)

-- how many bytes a receipt wants of the first acknowledgement
abbrev pub ack_left : ℕ → ℕ
ack_left have = HEAD_SIZE - have

-- an acknowledgement was put, or the put failed
pub record AckPut (count : ℕ) (failed : Bool) (old new : Returned) : Type 0 where
  pub counts : new.counts ≡ (if failed then old.counts else old.counts ++ count ∷ [])
  pub gathered : new.gathered ≡ old.gathered
  pub made : CallMade (PutBytes (spelled (AckFrame count))) failed old.wire new.wire old.faults new.faults

-- the first count
abbrev pub first_count : List ℕ → Option ℕ
first_count [] = None
first_count (n ∷ ns) = Some n

-- an acknowledgement was taken off, or there was none, or a take failed; what is gathered stays, and the calls of the wire
-- were the takes of so many bytes
pub record AckTaken (result : Result (Option ℕ) Failed) (old new : Returned) : Type 0 where
  pub counts : new.counts ≡ (if is_err result then old.counts else drop 1 old.counts)
  pub answer : IfOk result (λ it. it ≡ first_count old.counts)
  pub none : IfOk result (λ it. it ≡ None → old.counts ≡ [])
  pub in_range : IfOk result (λ it. IfSome it (λ n. (1 ≤ n) × (n ≤ MOST_CREDIT)))
  pub gathered : IfOk result (λ it. new.gathered ≡ [])
  pub kept : IfErr result (λ e. new.gathered ++ new.wire.transit ≡ old.gathered ++ old.wire.transit)
  pub made : TakesMade (length old.wire.transit - length new.wire.transit) (is_err result) (ack_left (length old.gathered)) old.wire new.wire old.faults new.faults

-- the bytes gathered and those in transit are exactly the spellings of the acknowledgements, each a head alone
pub record AreCarried (r : Returned) : Type 0 where
  pub stand : r.gathered ++ r.wire.transit ≡ all_spelled (map AckFrame r.counts)
  pub counts : Each (λ n. (1 ≤ n) × (n ≤ MOST_CREDIT)) r.counts
  pub bytes : length r.gathered + length r.wire.transit ≡ HEAD_SIZE * length r.counts

-- the first count was taken off, or a take failed and what is gathered stays, whatever was answered
pub record TakesFirst (failed : Bool) (old new : Returned) : Type 0 where
  pub counts : new.counts ≡ (if failed then old.counts else drop 1 old.counts)
  pub gathered : failed ≡ false → new.gathered ≡ []
  pub kept : failed ≡ true → new.gathered ++ new.wire.transit ≡ old.gathered ++ old.wire.transit
  pub made : TakesMade (length old.wire.transit - length new.wire.transit) failed (ack_left (length old.gathered)) old.wire new.wire old.faults new.faults

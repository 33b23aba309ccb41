-- The frames of a lane: gathered bytes of the first, then what is in transit.
use Rattle.std.specs.Prelude.{◌≡◌, ℕ, ◌-◌, ◌≤◌, Bool, false, List, [], ◌∷◌, ◌++◌, length}
use Rattle.xv_base.specs.Units.{Shape}
use Rattle.xv_frame.specs.declared.codes.TheConstants.{HEAD_SIZE}
use Rattle.xv_frame.specs.Frame.{Frame, Each, IsFrame, spelled, all_spelled}
use Rattle.xv_frame.specs.Reading.{frames_in}
use Rattle.xv_wire.specs.Told.{Told}
use Rattle.xv_streams.specs.Taking.{TakesMade}

-- how many bytes the first frame has, and how many a receipt wants of it
abbrev pub front_size : List Frame → ℕ
front_size [] = 0
front_size (f ∷ fs) = length (spelled f)

abbrev pub wanted : List Frame → ℕ → ℕ
wanted [] have = HEAD_SIZE
wanted (f ∷ fs) have = length (spelled f) - have

-- the bytes are the spellings of frames, of which the first may be gathered in part, and each fits the room
pub record IsLane (s : Shape) (room : ℕ) (gathered transit : List ℕ) : Type 0 where
  pub stand : all_spelled (frames_in s (gathered ++ transit)) ≡ gathered ++ transit
  pub each : Each (IsFrame s) (frames_in s (gathered ++ transit))
  pub part : length gathered ≤ front_size (frames_in s (gathered ++ transit))
  pub fit : Each (λ f. length (spelled f) ≤ room) (frames_in s (gathered ++ transit))

-- what was gathered grew to the whole first frame, or to a part of it where a take failed; bytes were moved, and none was
-- lost
pub record FrameTaken (s : Shape) (old new : List ℕ) (failed : Bool) (before later : Told) (faults more : ℕ) : Type 0 where
  pub moved : new ++ later.transit ≡ old ++ before.transit
  pub grown : length old ≤ length new
  pub part : length new ≤ front_size (frames_in s (old ++ before.transit))
  pub whole : failed ≡ false → length new ≡ front_size (frames_in s (old ++ before.transit))
  pub made : TakesMade (length new - length old) failed (wanted (frames_in s (old ++ before.transit)) (length old)) before later faults more

-- What is counted where a migration begins.
use Rattle.std.specs.Prelude.{◌≡◌, ◌<◌, ℕ, ◌^◌, false, [], IfSome}
use Rattle.xv_device.specs.Device.{write_count}
use Rattle.xv_device.specs.Told.{Told as DeviceTold}
use Rattle.xv_wire.specs.Told.{Told as WireTold}
use Rattle.xv_streams.specs.Streamed.{lane}
use Rattle.xv_core.specs.Seen.{Seen, wire}
use Rattle.xv_core.specs.State.{State}

-- every number that a device tells is below 2^62, and so is a wire's number of puts
pub record CountsLittle (told : DeviceTold) : Type 0 where
  pub writes : (unit : ℕ) → write_count told.writes unit < 2 ^ 62
  pub reads : IfSome told.counted (λ c. c.calls.reads < 2 ^ 62)
  pub patches : IfSome told.counted (λ c. c.calls.writes < 2 ^ 62)
  pub flushes : IfSome told.counted (λ c. c.calls.flushes < 2 ^ 62)

abbrev pub PutsLittle : WireTold → Type 0
PutsLittle told = IfSome told.counted (λ c. c.puts < 2 ^ 62)

pub record AllCountLittle (m : Seen) : Type 0 where
  pub source : CountsLittle m.source.told
  pub dest : CountsLittle m.dest.told
  pub wires : (s : ℕ) → PutsLittle (wire m s).told
  pub back : PutsLittle m.back.told

-- a wire counts no piece in transit, and no take met one
abbrev pub CountsNoPiece : WireTold → Type 0
CountsNoPiece told = IfSome told.counted (λ c. (c.left ≡ []) × (c.met ≡ false))

-- nothing is on a stream or on the way back
pub record IsIdle (s : State) : Type 0 where
  pub none_gathered : (k : ℕ) → (lane s.streams k).gathered ≡ []
  pub none_there : (k : ℕ) → (lane s.streams k).groups ≡ []
  pub pieces : (k : ℕ) → CountsNoPiece (lane s.streams k).wire
  pub none_gathered_back : s.back.gathered ≡ []
  pub none_there_back : s.back.counts ≡ []
  pub pieces_back : CountsNoPiece s.back.wire

-- What a wire tells, what may be called, and that exactly one call was made.
use Rattle.std.specs.Prelude.{◌≡◌, ℕ, ◌+◌, ◌-◌, ◌^◌, ◌<◌, ◌≤◌, min, Bool, if◌then◌else◌, List, length, Option, option_map, IfSome, ⊤}
use Rattle.xv_wire.specs.declared.wire.TheConstants.{LEAST_PUT}
use Rattle.xv_wire.specs.Wire.{WireCall, NoCall, PutBytes, TakeBytes, Counted, transit_after, counted_after, is_planned}

-- how many bytes may be in transit, those that are, and where they are told the plan with what it counts
pub record Told : Type 0 where
  pub capacity : ℕ
  pub transit : List ℕ
  pub counted : Option Counted

-- what may be called: a put of enough bytes, for which there is room, and whose number has not grown out of reach
abbrev pub MayCall : WireCall → Told → Type 0
MayCall NoCall t = ⊤
MayCall (PutBytes bytes) t = (LEAST_PUT ≤ length bytes) × (length t.transit + length bytes ≤ t.capacity) × IfSome t.counted (λ c. c.puts < 2 ^ 63)
MayCall (TakeBytes n) t = ⊤

-- what is told after a call that failed or did not
abbrev pub told_after : WireCall → Bool → Told → Told
told_after call failed t = record {
  capacity = t.capacity;
  transit = transit_after call failed t.transit;
  counted = option_map (counted_after call failed) t.counted;
}

-- the number of faults rose where a call failed, or stands at the last value of 64 bits, and never falls
pub record Caused (failed : Bool) (faults more : ℕ) : Type 0 where
  pub cause : min (faults + (if failed then 1 else 0)) (2 ^ 64 - 1) ≤ more
  pub never_falls : faults ≤ more

-- exactly this call was made, and failed or did not, by the plan where one is told
pub record CallMade (call : WireCall) (failed : Bool) (before later : Told) (faults more : ℕ) : Type 0 where
  pub told : later ≡ told_after call failed before
  pub planned : IfSome before.counted (λ c. failed ≡ is_planned call before.transit c)
  pub caused : Caused failed faults more

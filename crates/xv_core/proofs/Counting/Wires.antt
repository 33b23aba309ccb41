-- What an event does to a wire: nothing, one put, or the takes of one frame.
use Rattle.std.specs.Prelude.{◌≡◌, ℕ, zero, suc, ◌+◌, ◌==◌, ◌&&◌, Bool, true, false, List, [], ◌∷◌, map, set, get_or, Option, Some, None, option_map, IfSome}
use Rattle.std.proofs.Common.{arith, refl, ap, sym, ◌∙◌, subst, inl, inr}
use Rattle.std.proofs.lemmas.Bool.{and_right, cases_eq, eq-eqb, ne_eqb, or_left, or_right, or_from}
use Rattle.std.proofs.lemmas.List.{get_or-set_other}
use Rattle.xv_base.specs.Units.{Shape}
use Rattle.xv_base.specs.Calls.{is_listed}
use Rattle.xv_wire.specs.Wire.{WireCall, PutBytes, TakeBytes, Counted, counted_after, is_planned}
use Rattle.xv_wire.specs.Told.{Told, told_after, Caused, CallMade}
use Rattle.xv_frame.specs.Frame.{Message}
use Rattle.xv_streams.specs.Taking.{TakesMade}
use Rattle.xv_streams.specs.Streamed.{Streamed, LaneSeen, lane, no_lane}
use Rattle.xv_streams.specs.Fronts.{PutsGroup, TakesFront}
use Rattle.xv_streams.specs.Returned.{Returned, AckPut as PutsAck, TakesFirst}
use Rattle.xv_model.specs.Step.{Put, Take, AckPut, AckTake, same_call}
use Rattle.xv_model.specs.Outside.{Outside, NoOutside, ReadSource, WriteSource, ReadDest, WriteDest, FlushDest, PutOn, TakeFrom, PutBack, TakeBack, kind}
use Rattle.xv_core.specs.Seen.{OnWire, no_wire}
use Rattle.xv_core.specs.State.{on_wire, on_back}
use Rattle.xv_core.specs.Happening.{CallsStreams, CallsBack}
use Rattle.xv_core.specs.Counting.{is_of_wire, is_of_back}
use Rattle.xv_core.specs.Rising.{BothTold}
use Rattle.xv_core.proofs.Counting.Steps.{bit, if-some}

-- what became of a stream
pub data LaneStep (k : ℕ) (o : Outside) (failed : Bool) (s : Shape) (format : ℕ) (old new : LaneSeen) : Type 0 where
  LaneStays : same_call (Put k) (kind o) ≡ false → same_call (Take k) (kind o) ≡ false → is_of_wire k (kind o) ≡ false → new ≡ old → LaneStep k o failed s format old new
  LanePuts : (group : List Message) → kind o ≡ Put k → PutsGroup format group failed old new → LaneStep k o failed s format old new
  LaneTakes : kind o ≡ Take k → TakesFront s failed old new → LaneStep k o failed s format old new

lane-stays : (k : ℕ) (x y : Streamed) → y.lanes ≡ x.lanes → lane y k ≡ lane x k
lane-stays k x y e = ap (λ (ls : List LaneSeen). get_or ls k no_lane) e

other-lane : (k j : ℕ) (x y : Streamed) → (k ≡ j → ⊥) → y.lanes ≡ set x.lanes j (lane y j) → lane y k ≡ lane x k
other-lane k j x y ne e = lane-stays k (record x { lanes = set x.lanes j (lane y j) }) y e ∙ get_or-set_other x.lanes j k (lane y j) no_lane ne

pub lane-step : (k : ℕ) (o : Outside) (failed : Bool) (x y : Streamed) → CallsStreams o failed x y → LaneStep k o failed x.shape x.format (lane x k) (lane y k)
lane-step k NoOutside failed x y h = LaneStays refl refl refl (lane-stays k x y h)
lane-step k (ReadSource p) failed x y h = LaneStays refl refl refl (lane-stays k x y h)
lane-step k (WriteSource p) failed x y h = LaneStays refl refl refl (lane-stays k x y h)
lane-step k (ReadDest p) failed x y h = LaneStays refl refl refl (lane-stays k x y h)
lane-step k (WriteDest p) failed x y h = LaneStays refl refl refl (lane-stays k x y h)
lane-step k FlushDest failed x y h = LaneStays refl refl refl (lane-stays k x y h)
lane-step k (PutOn j) failed x y h = elim (cases_eq k j) [
  | inl e ↦ LanePuts h.group (ap Put (sym e)) (subst (λ (i : ℕ). PutsGroup x.format h.group failed (lane x i) (lane y i)) (sym e) h.put)
  | inr ne ↦ LaneStays (ne_eqb k j ne) refl (or_from (j == k) false (ne_eqb j k (λ e. ne (sym e))) refl) (other-lane k j x y ne h.only.lanes)
]
lane-step k (TakeFrom j) failed x y h = elim (cases_eq k j) [
  | inl e ↦ LaneTakes (ap Take (sym e)) (subst (λ (i : ℕ). TakesFront x.shape failed (lane x i) (lane y i)) (sym e) h.taken)
  | inr ne ↦ LaneStays refl (ne_eqb k j ne) (or_from false (j == k) refl (ne_eqb j k (λ e. ne (sym e)))) (other-lane k j x y ne h.only.lanes)
]
lane-step k PutBack failed x y h = LaneStays refl refl refl (lane-stays k x y h)
lane-step k TakeBack failed x y h = LaneStays refl refl refl (lane-stays k x y h)

-- and of the way back
pub data BackStep (o : Outside) (failed : Bool) (old new : Returned) : Type 0 where
  BackStays : same_call AckPut (kind o) ≡ false → same_call AckTake (kind o) ≡ false → is_of_back (kind o) ≡ false → new ≡ old → BackStep o failed old new
  BackPuts : (count : ℕ) → kind o ≡ AckPut → PutsAck count failed old new → BackStep o failed old new
  BackTakes : kind o ≡ AckTake → TakesFirst failed old new → BackStep o failed old new

pub back-step : (o : Outside) (failed : Bool) (x y : Returned) → CallsBack o failed x y → BackStep o failed x y
back-step NoOutside failed x y h = BackStays refl refl refl h
back-step (ReadSource p) failed x y h = BackStays refl refl refl h
back-step (WriteSource p) failed x y h = BackStays refl refl refl h
back-step (ReadDest p) failed x y h = BackStays refl refl refl h
back-step (WriteDest p) failed x y h = BackStays refl refl refl h
back-step FlushDest failed x y h = BackStays refl refl refl h
back-step (PutOn j) failed x y h = BackStays refl refl refl h
back-step (TakeFrom j) failed x y h = BackStays refl refl refl h
back-step PutBack failed x y h = BackPuts h.count refl h.put
back-step TakeBack failed x y h = BackTakes refl h

-- either, as what became of its wire: whether it was a put, a take, or of this wire at all
pub data WireStep (put take mine failed : Bool) (old new : OnWire) : Type 0 where
  Stays : put ≡ false → take ≡ false → mine ≡ false → new ≡ old → WireStep put take mine failed old new
  Puts : (bytes : List ℕ) → put ≡ true → take ≡ false → mine ≡ true → CallMade (PutBytes bytes) failed old.told new.told old.faults new.faults → WireStep put take mine failed old new
  Takes : (n want : ℕ) → put ≡ false → take ≡ true → mine ≡ true → TakesMade n failed want old.told new.told old.faults new.faults → WireStep put take mine failed old new

pub lane-wire : (k : ℕ) (o : Outside) (failed : Bool) (s : Shape) (format : ℕ) (old new : LaneSeen) → LaneStep k o failed s format old new
    → WireStep (same_call (Put k) (kind o)) (same_call (Take k) (kind o)) (is_of_wire k (kind o)) failed (on_wire old) (on_wire new)
lane-wire k o failed s format old new (LaneStays put take mine e) = Stays put take mine (ap on_wire e)
lane-wire k o failed s format old new (LanePuts group e h) =
    Puts _ (ap (same_call (Put k)) e ∙ eq-eqb k k refl) (ap (same_call (Take k)) e) (ap (is_of_wire k) e ∙ or_left (k == k) false (eq-eqb k k refl)) h.made
lane-wire k o failed s format old new (LaneTakes e h) =
    Takes _ _ (ap (same_call (Put k)) e) (ap (same_call (Take k)) e ∙ eq-eqb k k refl) (ap (is_of_wire k) e ∙ or_right false (k == k) (eq-eqb k k refl)) h.made

pub back-wire : (o : Outside) (failed : Bool) (old new : Returned) → BackStep o failed old new
    → WireStep (same_call AckPut (kind o)) (same_call AckTake (kind o)) (is_of_back (kind o)) failed (on_back old) (on_back new)
back-wire o failed old new (BackStays put take mine e) = Stays put take mine (ap on_back e)
back-wire o failed old new (BackPuts count e h) = Puts _ (ap (same_call AckPut) e) (ap (same_call AckTake) e) (ap is_of_back e) h.made
back-wire o failed old new (BackTakes e h) = Takes _ _ (ap (same_call AckPut) e) (ap (same_call AckTake) e) (ap is_of_back e) h.made

-- the wire of a stream, and of one that is not there
pub wire-is : (lanes : List LaneSeen) (k : ℕ) → get_or (map on_wire lanes) k no_wire ≡ on_wire (get_or lanes k no_lane)
wire-is [] k = refl
wire-is (l ∷ ls) zero = refl
wire-is (l ∷ ls) (suc k) = wire-is ls k

-- the numbers of puts after it
pub record PutAdded (put : Bool) (before later : Counted) : Type 0 where
  pub plan : later.plan ≡ before.plan
  pub puts : later.puts ≡ before.puts + bit put

none-added : (o : Option Counted) → BothTold (PutAdded false) o o
none-added None = tt
none-added (Some c) = record { plan = refl; puts = omega arith }

put-added : (bytes : List ℕ) (failed : Bool) (o : Option Counted) → BothTold (PutAdded true) o (option_map (counted_after (PutBytes bytes) failed) o)
put-added bytes failed None = tt
put-added bytes failed (Some c) = record { plan = refl; puts = refl }

take-added : (n : ℕ) (failed : Bool) (o : Option Counted) → BothTold (PutAdded false) o (option_map (counted_after (TakeBytes n) failed) o)
take-added n failed None = tt
take-added n failed (Some c) = record { plan = refl; puts = omega arith }

counted-by : (R : Counted → Counted → Type 0) (call : WireCall) (failed : Bool) (t u : Told) → u ≡ told_after call failed t → BothTold R t.counted (option_map (counted_after call failed) t.counted) → BothTold R t.counted u.counted
counted-by R call failed t u e h = subst (λ (o : Option Counted). BothTold R t.counted o) (sym (ap (λ (x : Told). x.counted) e)) h

pub wire-adds : (put take mine failed : Bool) (old new : OnWire) → WireStep put take mine failed old new → BothTold (PutAdded put) old.told.counted new.told.counted
wire-adds put take mine failed old new (Stays p t m e) =
    subst (λ (k : Bool). BothTold (PutAdded k) old.told.counted new.told.counted) (sym p) (subst (λ (x : OnWire). BothTold (PutAdded false) old.told.counted x.told.counted) (sym e) (none-added old.told.counted))
wire-adds put take mine failed old new (Puts bytes p t m h) =
    subst (λ (k : Bool). BothTold (PutAdded k) old.told.counted new.told.counted) (sym p) (counted-by (PutAdded true) (PutBytes bytes) failed old.told new.told h.told (put-added bytes failed old.told.counted))
wire-adds put take mine failed old new (Takes n want p t m h) =
    subst (λ (k : Bool). BothTold (PutAdded k) old.told.counted new.told.counted) (sym p) (counted-by (PutAdded false) (TakeBytes n) failed old.told new.told h.told (take-added n failed old.told.counted))

-- its faults after it
and-true : (b : Bool) → b ≡ (b && true)
and-true true = refl
and-true false = refl

same-faults : (n : ℕ) → Caused false n n
same-faults n = record { cause = omega arith; never_falls = omega arith }

mine-caused : (failed mine : Bool) (n k : ℕ) → mine ≡ true → Caused failed n k → Caused (failed && mine) n k
mine-caused failed mine n k e h = subst (λ (f : Bool). Caused f n k) (and-true failed ∙ ap (λ (m : Bool). failed && m) (sym e)) h

pub wire-caused : (put take mine failed : Bool) (old new : OnWire) → WireStep put take mine failed old new → Caused (failed && mine) old.faults new.faults
wire-caused put take mine failed old new (Stays p t m e) =
    subst (λ (f : Bool). Caused f old.faults new.faults) (sym (and_right failed mine m)) (subst (λ (x : OnWire). Caused false old.faults x.faults) (sym e) (same-faults old.faults))
wire-caused put take mine failed old new (Puts bytes p t m h) = mine-caused failed mine old.faults new.faults m h.caused
wire-caused put take mine failed old new (Takes n want p t m h) = mine-caused failed mine old.faults new.faults m h.caused

-- a put fails by the plan of puts
pub wire-put-planned : (put take mine failed : Bool) (old new : OnWire) → WireStep put take mine failed old new → put ≡ true → IfSome old.told.counted (λ c. failed ≡ is_listed c.plan.puts (c.puts + 1))
wire-put-planned put take mine failed old new (Stays p t m e) is = absurd (cc)
wire-put-planned put take mine failed old new (Puts bytes p t m h) is =
    if-some (λ c. failed ≡ is_planned (PutBytes bytes) old.told.transit c) (λ c. failed ≡ is_listed c.plan.puts (c.puts + 1)) old.told.counted h.planned (λ c e. e)
wire-put-planned put take mine failed old new (Takes n want p t m h) is = absurd (cc)

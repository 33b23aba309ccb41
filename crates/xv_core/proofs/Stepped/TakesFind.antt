-- Where all wires tell their plans, a call fails only where its event had something to do: a take meets no fault where
-- nothing is in transit.
use Rattle.std.specs.Prelude.{◌≡◌, ◌<◌, ℕ, ◌&&◌, nat_lt, not, Bool, true, false, List, [], ◌∷◌, length, map, get_or, Option, Some, None, IfSome, is_some}
use Rattle.std.specs.List.{list_all}
use Rattle.std.proofs.Common.{arith, refl, ap, sym, subst, ◌∙◌, inl, inr}
use Rattle.std.proofs.lemmas.Bool.{cases_Bool, false≢true, and_parts, ltb-true}
use Rattle.std.proofs.lemmas.List.{length-map}
use Rattle.std.proofs.lemmas.List.Folds.{list_all_at}
use Rattle.xv_base.specs.Units.{Shape}
use Rattle.xv_base.specs.declared.event.Event.TheVariants.{Deliver, Credit}
use Rattle.xv_base.specs.declared.answer.Why.TheVariants.{NothingThere, NotNow}
use Rattle.xv_frame.specs.Frame.{Message}
use Rattle.xv_wire.specs.Told.{Told}
use Rattle.xv_wire.specs.Lengths.{total}
use Rattle.xv_base.specs.Calls.{is_listed}
use Rattle.xv_wire.specs.Wire.{TakeBytes, Counted, front_piece, is_planned}
use Rattle.xv_streams.specs.Taking.{AreOfOnePiece, TakesMade}
use Rattle.xv_streams.specs.Streamed.{LaneSeen, no_lane, lane}
use Rattle.xv_streams.specs.Carried.{IsCarried}
use Rattle.xv_streams.specs.Fronts.{TakesFront, heads_of}
use Rattle.xv_streams.specs.Returned.{Returned, AreCarried, TakesFirst}
use Rattle.xv_model.specs.View.{View, UnitHead, is_live, is_empty, stream}
use Rattle.xv_model.specs.Wait.{Event, wait, unless}
use Rattle.xv_model.specs.Effect.{Turn}
use Rattle.xv_model.specs.Step.{is_flagged}
use Rattle.xv_job.specs.Written.{job_of}
use Rattle.xv_core.specs.Seen.{OnWire, no_wire}
use Rattle.xv_core.specs.State.{State, view, seen_of, on_wire}
use Rattle.xv_core.specs.Happening.{Happened}
use Rattle.xv_core.specs.Kept.{IsState}
use Rattle.xv_core.specs.Stepped.{tells_plans, FindsSome}
use Rattle.xv_core.proofs.Counting.Rises.{went}
use Rattle.xv_core.proofs.Counting.Wires.{wire-is}
use Rattle.xv_core.proofs.Plans.Takes.{none-there}
use Rattle.xv_core.proofs.Plans.Lanes.{lengths, acks, carried-at, in-transit, back-in-transit}
use Rattle.xv_core.proofs.Plans.Live.{heads-at, live-take, live-credit}

-- a take of a wire that tells its plan does not fail where nothing is in transit
none-fails : (n want : ℕ) (t u : Told) (f g : ℕ) → TakesMade n true want t u f g → length t.transit ≡ 0 → is_some t.counted ≡ true → ⊥
none-fails n want t u f g made none tells = by t.counted tells made.planned
  where
    by : (o : Option Counted) → is_some o ≡ true → IfSome o (λ c. AreOfOnePiece want t c → true ≡ (nat_lt 0 want && is_planned (TakeBytes 0) t.transit c)) → ⊥
    by None e p = false≢true e
    by (Some c) e p = false≢true (sym (p (λ there. absurd (omega (arith, none))) ∙ none-there (nat_lt 0 want) c.met (is_listed c.plan.takes (front_piece c)) (length t.transit) none))

-- so a stream has a group, and the way back an acknowledgement
lane-finds : (s : Shape) (format : ℕ) (old new : LaneSeen) → IsCarried s format old → TakesFront s true old new → old.gathered ≡ [] → is_some old.wire.counted ≡ true → is_empty old.groups ≡ false
lane-finds s format old new was h none tells = by old.groups refl
  where
    by : (groups : List (List Message)) → old.groups ≡ groups → is_empty groups ≡ false
    by [] e =
        let nothing : length old.wire.transit ≡ 0 = in-transit s format old was none ∙ ap (λ (gs : List (List Message)). total (lengths format gs)) e in
        absurd (none-fails _ _ old.wire new.wire old.faults new.faults h.made nothing tells)
    by (g ∷ gs) e = refl

back-finds : (old new : Returned) → AreCarried old → TakesFirst true old new → old.gathered ≡ [] → is_some old.wire.counted ≡ true → is_empty old.counts ≡ false
back-finds old new was h none tells = by old.counts refl
  where
    by : (counts : List ℕ) → old.counts ≡ counts → is_empty counts ≡ false
    by [] e =
        let nothing : length old.wire.transit ≡ 0 = back-in-transit old was none ∙ ap (λ (ns : List ℕ). total (acks ns)) e in
        absurd (none-fails _ _ old.wire new.wire old.faults new.faults h.made nothing tells)
    by (n ∷ ns) e = refl

empty-heads : (groups : List (List Message)) → is_empty (map heads_of groups) ≡ is_empty groups
empty-heads [] = refl
empty-heads (g ∷ gs) = refl

-- an event goes on whatever its flag, where what it takes from is not empty
take-goes : (live empty : Bool) → unless (not live) NotNow (unless (not true && empty) NothingThere None) ≡ None → empty ≡ false → unless (not live) NotNow (unless (not false && empty) NothingThere None) ≡ None
take-goes true false goes some = refl
take-goes true true goes some = absurd (cc)
take-goes false empty goes some = absurd (cc)

-- the wire of a stream that is there tells its plan
lane-tells : (lanes : List LaneSeen) (i : ℕ) → i < length lanes → list_all (λ (w : OnWire). is_some w.told.counted) (map on_wire lanes) ≡ true → is_some (get_or lanes i no_lane).wire.counted ≡ true
lane-tells lanes i there all = elim (cases_Bool (is_some (get_or lanes i no_lane).wire.counted)) [
  | inl tells ↦ tells
  | inr none ↦
      let within : i < length (map on_wire lanes) = omega (arith, length-map lanes on_wire) in
      let silent : is_some (get_or (map on_wire lanes) i no_wire).told.counted ≡ false = ap (λ (w : OnWire). is_some w.told.counted) (wire-is lanes i) ∙ none in
      absurd (false≢true (sym (list_all_at (λ (w : OnWire). is_some w.told.counted) (map on_wire lanes) i no_wire within silent) ∙ all))
]

group-there : (s t : State) (i : ℕ) (a : Turn) → IsState s → Happened s (Deliver i) a t → tells_plans (seen_of s) ≡ true → is_flagged a ≡ true → is_empty (stream (view s) i) ≡ false
group-there s t i a k h plans flagged =
    let old = lane s.streams i in
    let new = lane t.streams i in
    let taken : TakesFront s.streams.shape true old new = subst (λ (f : Bool). TakesFront s.streams.shape f old new) flagged h.calls.streams.taken in
    let live : is_live s.phase ≡ true = live-take s t (Deliver i) a k.running h i refl in
    let there : i < length s.streams.lanes = omega (arith, ltb-true i (job_of s.job).config.streams h.fitting, k.running.parts.each_stream) in
    let tells : is_some old.wire.counted ≡ true = lane-tells s.streams.lanes i there (and_parts (list_all (λ (w : OnWire). is_some w.told.counted) (map on_wire s.streams.lanes)) (is_some s.back.wire.counted) plans).0 in
    let shown : stream (view s) i ≡ map heads_of old.groups = sym (ap (λ (v : View). stream v i) k.running.shows) ∙ heads-at s.streams.lanes i in
    ap (λ (x : List (List UnitHead)). is_empty x) shown
    ∙ empty-heads old.groups
    ∙ lane-finds s.streams.shape s.streams.format old new (carried-at s.streams.shape s.streams.format s.streams.lanes i k.carried.streams) taken (k.pieces.gathered i live) tells

count-there : (s t : State) (a : Turn) → IsState s → Happened s Credit a t → tells_plans (seen_of s) ≡ true → is_flagged a ≡ true → is_empty (view s).acks ≡ false
count-there s t a k h plans flagged =
    let taken : TakesFirst true s.back t.back = subst (λ (f : Bool). TakesFirst f s.back t.back) flagged h.calls.back in
    let live : is_live s.phase ≡ true = live-credit s t Credit a k.running h refl in
    let tells : is_some s.back.wire.counted ≡ true = (and_parts (list_all (λ (w : OnWire). is_some w.told.counted) (map on_wire s.streams.lanes)) (is_some s.back.wire.counted) plans).1 in
    let shown : s.back.counts ≡ (view s).acks = ap (λ (v : View). v.acks) k.running.shows in
    ap (λ (x : List ℕ). is_empty x) (sym shown) ∙ back-finds s.back t.back k.carried.back taken (k.pieces.back_gathered live) tells

went-flagged : (s t : State) (e : Event) (a : Turn) → Happened s e a t → is_flagged a ≡ true → wait (job_of s.job) (view s) e true ≡ None
went-flagged s t e a h flagged = subst (λ (f : Bool). wait (job_of s.job) (view s) e f ≡ None) flagged (went s t e a h)

pub finds-some : (s t : State) (e : Event) (a : Turn) → IsState s → Happened s e a t → FindsSome (seen_of s) e a
finds-some s t (Deliver i) a k h plans flagged = take-goes (is_live (view s).phase) (is_empty (stream (view s) i)) (went-flagged s t (Deliver i) a h flagged) (group-there s t i a k h plans flagged)
finds-some s t Credit a k h plans flagged = take-goes (is_live (view s).phase) (is_empty (view s).acks) (went-flagged s t Credit a h flagged) (count-there s t a k h plans flagged)
finds-some s t e a k h plans flagged = went-flagged s t e a h flagged

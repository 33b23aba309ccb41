-- Where an answer tells that a call failed, the count of faults of its object rose.
use Rattle.std.specs.Prelude.{◌≡◌, ℕ, ◌==◌, ◌&&◌, Bool, true, false, Option, Some, None, if◌then◌else◌}
use Rattle.std.proofs.Common.{refl, sym, ap, subst, ◌∙◌}
use Rattle.xv_base.specs.declared.event.Event.TheVariants.{Guest, Begin, Read, Advance, Release, Round, Page, Send, Deliver, Apply, Ack, Credit, Stun, Switch, Cancel}
use Rattle.xv_base.specs.declared.answer.Turn.TheVariants.{Queued}
use Rattle.xv_model.specs.Job.{Job}
use Rattle.xv_model.specs.View.{View}
use Rattle.xv_model.specs.Wait.{Event, Why, wait, next_aim, is_join}
use Rattle.xv_model.specs.Effect.{Turn, answer}
use Rattle.xv_model.specs.Step.{turn, turn_by, breaks, is_flagged, is_call, call}
use Rattle.xv_model.specs.Outside.{Outside, NoOutside, ReadSource, WriteSource, ReadDest, WriteDest, FlushDest, PutOn, TakeFrom, PutBack, TakeBack, outside, kind}
use Rattle.xv_core.specs.Seen.{OnWire, wire}
use Rattle.xv_core.specs.State.{State, seen_of}
use Rattle.xv_streams.specs.Streamed.{lane}
use Rattle.xv_core.specs.Happening.{OneCall}
use Rattle.xv_core.specs.Stepped.{Rose, RoseOn}
use Rattle.xv_core.proofs.Counting.Wires.{wire-is}
use Rattle.xv_model.proofs.Outside.Calls.{kind-call}

-- an event whose call did not fail is not answered so
unflagged-if : (c : Bool) (a b : Turn) → is_flagged a ≡ false → is_flagged b ≡ false → is_flagged (if c then a else b) ≡ false
unflagged-if true a b h k = h
unflagged-if false a b h k = k

unflagged-answer : (job : Job) (v : View) (e : Event) → is_flagged (answer job v e) ≡ false
unflagged-answer job v (Guest g) = unflagged-if (is_join (next_aim job v g.0)) Queued _ refl refl
unflagged-answer job v (Begin d) = refl
unflagged-answer job v (Read d) = refl
unflagged-answer job v (Advance d) = refl
unflagged-answer job v (Release d) = refl
unflagged-answer job v Round = refl
unflagged-answer job v Page = refl
unflagged-answer job v (Send s) = unflagged-if (job.format == 1) _ _ refl refl
unflagged-answer job v (Deliver s) = unflagged-if (job.format == 1) _ _ refl refl
unflagged-answer job v Apply = refl
unflagged-answer job v Ack = refl
unflagged-answer job v Credit = refl
unflagged-answer job v Stun = refl
unflagged-answer job v Switch = refl
unflagged-answer job v Cancel = refl

flagged-by : (why : Option Why) (broken : Bool) (job : Job) (v : View) (e : Event) → is_flagged (turn_by why broken job v e) ≡ true → broken ≡ true
flagged-by (Some why) broken job v e h = absurd (cc)
flagged-by None false job v e h = sym (unflagged-answer job v e) ∙ h
flagged-by None true job v e h = refl

-- so a flagged answer is of an event that makes a call
pub flagged-calls : (job : Job) (v : View) (e : Event) (a : Turn) → a ≡ turn job v e (is_flagged a) → is_flagged a ≡ true → is_call (kind (outside job v e)) ≡ true
flagged-calls job v e a is flagged =
    let now : a ≡ turn job v e true = is ∙ ap (turn job v e) flagged in
    let broken : (true && is_call (call job v e)) ≡ true = flagged-by (wait job v e true) (breaks job v e true) job v e (sym (ap is_flagged now) ∙ flagged) in
    subst (λ c. is_call c ≡ true) (sym (kind-call job v e)) broken

-- the wire of a stream by its number
wire-rose : (s t : State) (k : ℕ) → Rose (lane s.streams k).faults (lane t.streams k).faults → Rose (wire (seen_of s) k).faults (wire (seen_of t) k).faults
wire-rose s t k h =
    subst (λ (w : OnWire). Rose w.faults (wire (seen_of t) k).faults) (sym (wire-is s.streams.lanes k))
    (subst (λ (w : OnWire). Rose (lane s.streams k).faults w.faults) (sym (wire-is t.streams.lanes k)) h)

pub rose : (o : Outside) (s t : State) → is_call (kind o) ≡ true → OneCall o true s t → RoseOn o (seen_of s) (seen_of t)
rose NoOutside s t is h = absurd (cc)
rose (ReadSource p) s t is h = h.source.cause
rose (WriteSource p) s t is h = h.source.made.cause
rose (ReadDest p) s t is h = h.dest.cause
rose (WriteDest p) s t is h = h.dest.made.cause
rose FlushDest s t is h = h.dest.cause
rose (PutOn k) s t is h = wire-rose s t k h.streams.put.made.caused.cause
rose (TakeFrom k) s t is h = wire-rose s t k h.streams.taken.made.caused.cause
rose PutBack s t is h = h.back.put.made.caused.cause
rose TakeBack s t is h = h.back.made.caused.cause

-- A call that fails is told as what it does.
use Rattle.std.specs.Prelude.{◌≡◌, Bool, true, false, [], ◌∷◌, ◌++◌, Option, Some, None}
use Rattle.std.proofs.Common.{refl, ap, sym, ◌∙◌}
use Rattle.std.proofs.lemmas.Bool.{both_ways, and_right, and_parts}
use Rattle.xv_model.specs.Job.{Job}
use Rattle.xv_model.specs.View.{View}
use Rattle.xv_model.specs.Wait.{Event, Why, wait}
use Rattle.xv_model.specs.Effect.{given_up, answer, fault_answer, fault_effect}
use Rattle.xv_model.specs.Step.{step, view_by, turn, turn_by, call, is_call, is_flagged, breaks}
use Rattle.xv_model.specs.Ending.{guest_of}
use Rattle.xv_base.specs.declared.operation.Outcome.TheVariants.{Faulted}
use Rattle.xv_base.specs.declared.answer.Cause.{Cause}
use Rattle.xv_base.specs.declared.answer.Turn.TheVariants.{Faulted as GuestFault, Failed as Broke}
use Rattle.xv_base.specs.declared.event.Phase.TheVariants.{Failed}
use Rattle.xv_base.specs.declared.event.Event.TheVariants.{Guest, Begin, Advance, Release, Round, Stun, Cancel}
use Rattle.xv_model.proofs.Bound.Driven.{tells-answer}

unbroken : (why : Option Why) (broken : Bool) (job : Job) (v : View) (e : Event) → broken ≡ false → is_flagged (turn_by why broken job v e) ≡ false
unbroken (Some why) broken job v e whole = refl
unbroken None false job v e whole = (tells-answer job v e).flagged
unbroken None true job v e whole = absurd (cc)

pub told-no_call : (job : Job) (v : View) (e : Event) (flag : Bool) → is_call (call job v e) ≡ false → is_flagged (turn job v e flag) ≡ false
told-no_call job v e flag none = unbroken (wait job v e flag) (breaks job v e flag) job v e (and_right flag (is_call (call job v e)) none)

-- a flagged answer comes where the event goes on and its call breaks
record IsBroken (why : Option Why) (broken : Bool) : Type 0 where
  goes : why ≡ None
  breaks : broken ≡ true

broken-by : (why : Option Why) (broken : Bool) (job : Job) (v : View) (e : Event) → is_flagged (turn_by why broken job v e) ≡ true → IsBroken why broken
broken-by (Some why) broken job v e flagged = absurd (cc)
broken-by None false job v e flagged = absurd (both_ways (is_flagged (answer job v e)) (tells-answer job v e).flagged flagged)
broken-by None true job v e flagged = record { goes = refl; breaks = refl }

broken_step : (job : Job) (v : View) (e : Event) (flag : Bool) → IsBroken (wait job v e flag) (breaks job v e flag) → step job v e flag ≡ fault_effect v e
broken_step job v e flag is = ap (λ w. view_by w (breaks job v e flag) job v e) is.goes ∙ ap (λ b. view_by None b job v e) is.breaks

broken_turn : (job : Job) (v : View) (e : Event) (flag : Bool) → IsBroken (wait job v e flag) (breaks job v e flag) → turn job v e flag ≡ fault_answer e
broken_turn job v e flag is = ap (λ w. turn_by w (breaks job v e flag) job v e) is.goes ∙ ap (λ b. turn_by None b job v e) is.breaks

-- the two tables agree
failed_tables : (v : View) (e : Event) (cause : Cause) → fault_answer e ≡ Broke cause → fault_effect v e ≡ given_up v Failed
failed_tables v (Guest g) cause is = absurd (cc)
failed_tables v (Release d) cause is = absurd (cc)
failed_tables v e cause is = refl

pub told-failed : (job : Job) (v : View) (e : Event) (flag : Bool) (cause : Cause) → turn job v e flag ≡ Broke cause → step job v e flag ≡ given_up v Failed
told-failed job v e flag cause told =
    let is = broken-by (wait job v e flag) (breaks job v e flag) job v e (ap is_flagged told) in
    broken_step job v e flag is ∙ failed_tables v e cause (sym (broken_turn job v e flag is) ∙ told)

faulted_tables : (job : Job) (v : View) (e : Event) → is_call (call job v e) ≡ true → fault_answer e ≡ GuestFault → (fault_effect v e).history ≡ v.history ++ record { guest = guest_of v e; outcome = Faulted } ∷ []
faulted_tables job v (Guest g) calls is = refl
faulted_tables job v (Release d) calls is = refl
faulted_tables job v (Begin d) calls is = absurd (cc)
faulted_tables job v (Advance d) calls is = absurd (cc)
faulted_tables job v Round calls is = absurd (cc)
faulted_tables job v Stun calls is = absurd (cc)
faulted_tables job v Cancel calls is = absurd (cc)
faulted_tables job v e calls is = absurd (cc)

pub told-faulted : (job : Job) (v : View) (e : Event) (flag : Bool) → turn job v e flag ≡ GuestFault → (step job v e flag).history ≡ v.history ++ record { guest = guest_of v e; outcome = Faulted } ∷ []
told-faulted job v e flag told =
    let is = broken-by (wait job v e flag) (breaks job v e flag) job v e (ap is_flagged told) in
    ap (λ (w : View). w.history) (broken_step job v e flag is)
    ∙ faulted_tables job v e (and_parts flag (is_call (call job v e)) is.breaks).1 (sym (broken_turn job v e flag is) ∙ told)

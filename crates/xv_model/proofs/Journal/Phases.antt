-- The phase of a run is what its journal tells.
use Rattle.std.proofs.Common.{◌≡◌, ◌==◌, ◌&&◌, ◌||◌, Bool, true, false, if◌then◌else◌, List, [], ◌∷◌, take, Option, Some, None, unwrap_or, refl, ap, sym, ◌∙◌}
use Rattle.std.specs.List.{list_any}
use Rattle.std.proofs.lemmas.Bool.{and_parts}
use Rattle.xv_base.specs.declared.limits.TheConstants.{SINGLE_FORMAT}
use Rattle.xv_base.specs.declared.event.Event.TheVariants.{Guest, Begin, Read, Advance, Release, Round, Page, Send, Deliver, Apply, Ack, Credit, Stun, Switch, Cancel}
use Rattle.xv_base.specs.declared.event.Phase.TheVariants.{Running, Stunned}
use Rattle.xv_base.specs.declared.answer.Turn.TheVariants.{Done, Queued, Faulted, Wait as Waits, Failed as Broke}
use Rattle.xv_model.specs.Job.{Job, UnitOp}
use Rattle.xv_model.specs.View.{View, UnitHead, Phase, first_view, is_live, is_switched, front_group}
use Rattle.xv_model.specs.Wait.{Event, Aim, Alone, Store, Join, Mirror, wait, next_operation, next_aim}
use Rattle.xv_model.specs.Effect.{Turn, Note, effect, fault_effect, answer, fault_answer, guest_answer, group_note, batch}
use Rattle.xv_model.specs.Step.{Entry, step, turn, breaks, after, run, is_flagged, same_turn, is_run, is_run_from}
use Rattle.xv_model.specs.Growth.{happened, is_failure}
use Rattle.xv_model.specs.Journal.{phase_of, changes_to, phase_told, is_switch, is_cancel, has_switch, has_cancelled, has_failure, is_cancelled, is_failed}
use Rattle.xv_model.proofs.GoesOn.{read_goes, page_goes, send_goes, deliver_goes, apply_goes, ack_goes, credit_goes, stun_goes, switch_goes, cancel_goes, running_is_live, stunned_is_live, live_not_switched}
use Rattle.xv_model.proofs.Journal.Ways.{entry_ways}

-- from one view to the next the phase stays, and the entry tells none; or it was live, and is the one that the entry
-- tells
pub data Changes (v w : View) (told : Option Phase) : Type 0 where
  stays : w.phase ≡ v.phase → told ≡ None → Changes v w told
  turns : is_live v.phase ≡ true → told ≡ Some w.phase → Changes v w told

guest_tells : (g : Event) (op : UnitOp) (a : Aim) → phase_of g ≡ None → changes_to g (guest_answer op a) ≡ None
guest_tells g op Alone e = e
guest_tells g op Store e = e
guest_tells g op Join e = refl
guest_tells g op Mirror e = e

note_tells : (e : Event) (b : Bool) (m n : Note) → phase_of e ≡ None → changes_to e (if b then Done m else Done n) ≡ None
note_tells e true m n h = h
note_tells e false m n h = h

group_tells : (e : Event) (job : Job) (group : List UnitHead) → phase_of e ≡ None → changes_to e (group_note job group) ≡ None
group_tells e job group h = note_tells e (job.format == SINGLE_FORMAT) _ _ h

goes_changes : (job : Job) (v : View) (e : Event) (flag : Bool) → wait job v e flag ≡ None → Changes v (effect job v e) (changes_to e (answer job v e))
goes_changes job v (Guest g) flag w = stays refl (guest_tells (Guest g) (next_operation job v g.0) (next_aim job v g.0) refl)
goes_changes job v (Begin d) flag w = stays refl refl
goes_changes job v (Read d) flag w = stays refl refl
goes_changes job v (Advance d) flag w = stays refl refl
goes_changes job v (Release d) flag w = stays refl refl
goes_changes job v Round flag w = stays refl refl
goes_changes job v Page flag w = stays refl refl
goes_changes job v (Send s) flag w = stays refl (group_tells (Send s) job (take (batch job v) v.outbox.messages) refl)
goes_changes job v (Deliver s) flag w = stays refl (group_tells (Deliver s) job (front_group v s) refl)
goes_changes job v Apply flag w = stays refl refl
goes_changes job v Ack flag w = stays refl refl
goes_changes job v Credit flag w = stays refl refl
goes_changes job v Stun flag w = turns (running_is_live v.phase (stun_goes job v flag w).running) refl
goes_changes job v Switch flag w = turns (stunned_is_live v.phase (switch_goes job v flag w).stunned) refl
goes_changes job v Cancel flag w = turns (cancel_goes job v flag w).live refl

no_call : (flag : Bool) → (flag && false) ≡ true → ⊥
no_call true h = cc
no_call false h = cc

fails_changes : (job : Job) (v : View) (e : Event) (flag : Bool) → wait job v e flag ≡ None → breaks job v e flag ≡ true → Changes v (fault_effect v e) (changes_to e (fault_answer e))
fails_changes job v (Guest g) flag w b = stays refl refl
fails_changes job v (Begin d) flag w b = absurd (no_call flag b)
fails_changes job v (Read d) flag w b = turns (running_is_live v.phase (read_goes job v d flag w).running) refl
fails_changes job v (Advance d) flag w b = absurd (no_call flag b)
fails_changes job v (Release d) flag w b = stays refl refl
fails_changes job v Round flag w b = absurd (no_call flag b)
fails_changes job v Page flag w b = turns (page_goes job v flag w).live refl
fails_changes job v (Send s) flag w b = turns (send_goes job v s flag w).live refl
fails_changes job v (Deliver s) flag w b = turns (deliver_goes job v s flag w).live refl
fails_changes job v Apply flag w b = turns (apply_goes job v flag w).live refl
fails_changes job v Ack flag w b = turns (ack_goes job v flag w).live refl
fails_changes job v Credit flag w b = turns (credit_goes job v flag w).live refl
fails_changes job v Stun flag w b = absurd (no_call flag b)
fails_changes job v Switch flag w b = turns (stunned_is_live v.phase (switch_goes job v flag w).stunned) refl
fails_changes job v Cancel flag w b = absurd (no_call flag b)

pub entry_changes : (job : Job) (v : View) (e : Entry) → same_turn e.turn (turn job v e.event (is_flagged e.turn)) ≡ true → Changes v (step job v e.event (is_flagged e.turn)) (changes_to e.event e.turn)
entry_changes job v e h = entry_ways (λ w t. Changes v w (changes_to e.event t)) job v e h (λ w b. goes_changes job v e.event (is_flagged e.turn) w) (λ w b. fails_changes job v e.event (is_flagged e.turn) w b)

-- the phase that is told
told_by : (v w : View) (told : Option Phase) → Changes v w told → w.phase ≡ unwrap_or told v.phase
told_by v w told (stays p n) = p ∙ ap (λ (o : Option Phase). unwrap_or o v.phase) (sym n)
told_by v w told (turns l t) = ap (λ (o : Option Phase). unwrap_or o v.phase) (sym t)

told_from : (job : Job) (v : View) (journal : List Entry) → is_run_from job v journal ≡ true → (after job v journal).phase ≡ phase_told v.phase journal
told_from job v [] r = refl
told_from job v (e ∷ es) r =
    let next = step job v e.event (is_flagged e.turn) in
    let runs = and_parts (same_turn e.turn (turn job v e.event (is_flagged e.turn))) (is_run_from job next es) r in
    told_from job next es runs.1 ∙ ap (λ (p : Phase). phase_told p es) (told_by v next (changes_to e.event e.turn) (entry_changes job v e runs.0))

pub phase-told : (job : Job) (journal : List Entry) → is_run job journal ≡ true → (run job journal).phase ≡ phase_told Running journal
phase-told job journal r = told_from job (first_view job) journal r

-- whether what is told passes a test on phases
abbrev tells : (Phase → Bool) → Option Phase → Bool
tells test None = false
tells test (Some p) = test p

or-false : (b : Bool) → b ≡ (b || false)
or-false true = refl
or-false false = refl

or_assoc : (a b c : Bool) → ((a || b) || c) ≡ (a || (b || c))
or_assoc true b c = refl
or_assoc false b c = refl

passes_by : (test : Phase → Bool) (v w : View) (told : Option Phase) → ((p : Phase) → is_live p ≡ true → test p ≡ false) → Changes v w told → test w.phase ≡ (test v.phase || tells test told)
passes_by test v w told dead (stays p n) = ap test p ∙ or-false (test v.phase) ∙ ap (λ (o : Option Phase). test v.phase || tells test o) (sym n)
passes_by test v w told dead (turns l t) = ap (λ (o : Option Phase). tells test o) (sym t) ∙ ap (λ (b : Bool). b || tells test told) (sym (dead v.phase l))

passes_from : (test : Phase → Bool) (hit : Entry → Bool) (job : Job) (v : View) (journal : List Entry) → ((p : Phase) → is_live p ≡ true → test p ≡ false) →
    ((e : Entry) → tells test (changes_to e.event e.turn) ≡ hit e) → is_run_from job v journal ≡ true → test (after job v journal).phase ≡ (test v.phase || list_any hit journal)
passes_from test hit job v [] dead hits r = or-false (test v.phase)
passes_from test hit job v (e ∷ es) dead hits r =
    let next = step job v e.event (is_flagged e.turn) in
    let runs = and_parts (same_turn e.turn (turn job v e.event (is_flagged e.turn))) (is_run_from job next es) r in
    let here = passes_by test v next (changes_to e.event e.turn) dead (entry_changes job v e runs.0) in
    passes_from test hit job next es dead hits runs.1
    ∙ ap (λ (b : Bool). b || list_any hit es) (here ∙ ap (λ (b : Bool). test v.phase || b) (hits e))
    ∙ or_assoc (test v.phase) (hit e) (list_any hit es)

-- failed, cancelled and switched
dead_failed : (p : Phase) → is_live p ≡ true → is_failed p ≡ false
dead_failed Running l = refl
dead_failed Stunned l = refl
dead_failed p l = absurd (cc)

dead_cancelled : (p : Phase) → is_live p ≡ true → is_cancelled p ≡ false
dead_cancelled Running l = refl
dead_cancelled Stunned l = refl
dead_cancelled p l = absurd (cc)

begun_failed : (e : Event) → tells is_failed (phase_of e) ≡ false
begun_failed Stun = refl
begun_failed Switch = refl
begun_failed Cancel = refl
begun_failed e = refl

begun_cancelled : (e : Event) → tells is_cancelled (phase_of e) ≡ (is_cancel e && true)
begun_cancelled Stun = refl
begun_cancelled Switch = refl
begun_cancelled Cancel = refl
begun_cancelled e = refl

begun_switched : (e : Event) → tells is_switched (phase_of e) ≡ (is_switch e && true)
begun_switched Stun = refl
begun_switched Switch = refl
begun_switched Cancel = refl
begun_switched e = refl

and-none : (b : Bool) → false ≡ (b && false)
and-none true = refl
and-none false = refl

hit_failed : (e : Event) (t : Turn) → tells is_failed (changes_to e t) ≡ is_failure t
hit_failed e (Done n) = begun_failed e
hit_failed e Queued = refl
hit_failed e Faulted = refl
hit_failed e (Waits why) = refl
hit_failed e (Broke cause) = refl

hit_cancelled : (e : Event) (t : Turn) → tells is_cancelled (changes_to e t) ≡ (is_cancel e && happened t)
hit_cancelled e (Done n) = begun_cancelled e
hit_cancelled e Queued = and-none (is_cancel e)
hit_cancelled e Faulted = and-none (is_cancel e)
hit_cancelled e (Waits why) = and-none (is_cancel e)
hit_cancelled e (Broke cause) = and-none (is_cancel e)

hit_switched : (e : Event) (t : Turn) → tells is_switched (changes_to e t) ≡ (is_switch e && happened t)
hit_switched e (Done n) = begun_switched e
hit_switched e Queued = and-none (is_switch e)
hit_switched e Faulted = and-none (is_switch e)
hit_switched e (Waits why) = and-none (is_switch e)
hit_switched e (Broke cause) = and-none (is_switch e)

pub run-failed : (job : Job) (journal : List Entry) → is_run job journal ≡ true → is_failed (run job journal).phase ≡ has_failure journal
run-failed job journal r = passes_from is_failed (λ (e : Entry). is_failure e.turn) job (first_view job) journal dead_failed (λ e. hit_failed e.event e.turn) r

pub run-cancelled : (job : Job) (journal : List Entry) → is_run job journal ≡ true → is_cancelled (run job journal).phase ≡ has_cancelled journal
run-cancelled job journal r = passes_from is_cancelled (λ (e : Entry). is_cancel e.event && happened e.turn) job (first_view job) journal dead_cancelled (λ e. hit_cancelled e.event e.turn) r

pub run-switched : (job : Job) (journal : List Entry) → is_run job journal ≡ true → is_switched (run job journal).phase ≡ has_switch journal
run-switched job journal r = passes_from is_switched (λ (e : Entry). is_switch e.event && happened e.turn) job (first_view job) journal live_not_switched (λ e. hit_switched e.event e.turn) r

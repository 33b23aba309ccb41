-- How a finished run ended: switched where no cancel was asked for and no call failed, and else as asked.
use Rattle.std.proofs.Common.{◌≡◌, ℕ, ◌+◌, ◌&&◌, ◌||◌, Bool, true, false, if◌then◌else◌, List, [], ◌∷◌, ◌++◌, length, Option, Some, None, is_some, refl, ap, sym, subst, ◌∙◌}
use Rattle.std.specs.List.{list_any, list_all}
use Rattle.std.proofs.lemmas.Bool.{and_parts, eqb-true, both_ways}
use Rattle.xv_base.specs.declared.event.Event.TheVariants.{Cancel}
use Rattle.xv_base.specs.declared.event.Phase.TheVariants.{Running, Stunned, Switched, Cancelled, Failed}
use Rattle.xv_base.specs.declared.answer.Turn.TheVariants.{Done, Queued, Faulted, Wait as Waits, Failed as Broke}
use Rattle.xv_model.specs.Job.{Job, IsGoodJob, UnitOp}
use Rattle.xv_model.specs.View.{View, Phase, first_view, is_live, is_switched}
use Rattle.xv_model.specs.Wait.{Event, Aim, Alone, Store, Join, Mirror, wait, fits, reaches, has_cancel, next_operation, next_aim}
use Rattle.xv_model.specs.Effect.{Turn, guest_by}
use Rattle.xv_model.specs.Step.{Entry, Call, step, turn, call, after, run, is_flagged, is_planned, is_call, same_truth, same_turn, is_run, is_faithful, is_faithful_from}
use Rattle.xv_model.specs.Invariant.{IsViewOf}
use Rattle.xv_model.specs.Work.{is_finished}
use Rattle.xv_model.specs.Driver.{driven}
use Rattle.xv_model.specs.Growth.{is_failure}
use Rattle.xv_model.specs.Journal.{has_failure, is_cancelled, is_failed}
use Rattle.xv_model.proofs.First.{first_view-holds}
use Rattle.xv_model.proofs.Kept.{step-holds}
use Rattle.xv_model.proofs.Steps.{EffectsKeep, step_keeps}
use Rattle.xv_model.proofs.Finished.{finished}
use Rattle.xv_model.proofs.GoesOn.{CancelGoes, cancel_goes}
use Rattle.xv_model.proofs.NeverSwitched.{run-never_switched}
use Rattle.xv_model.proofs.OneMore.{is_run-one}
use Rattle.xv_model.proofs.Bound.Driven.{driven-ends}
use Rattle.xv_model.proofs.Journal.Ways.{went_on}
use Rattle.xv_model.proofs.Journal.Phases.{run-failed}

-- where a migration is cancelled, its mark is the cancel number
pub record CancelledAt (job : Job) (phase : Phase) (mark : ℕ) : Type 0 where
  pub at : is_cancelled phase ≡ true → job.config.cancel ≡ Some mark

dead : {A : Type 0} → false ≡ true → A
dead h = absurd (cc)

-- once it is cancelled, the mark stands still
mark_stays : (p : Phase) (n mark : ℕ) → is_cancelled p ≡ true → mark ≡ (if is_live p then n else mark)
mark_stays Cancelled n mark h = refl
mark_stays p n mark h = absurd (cc)

pushed_at : (job : Job) (v : View) (n : ℕ) → CancelledAt job v.phase v.mark → CancelledAt job v.phase (if is_live v.phase then n else v.mark)
pushed_at job v n k = record { at = λ h. k.at h ∙ ap Some (mark_stays v.phase n v.mark h) }

guest_at : (job : Job) (v : View) (g : ℕ) (op : UnitOp) (a : Aim) → CancelledAt job v.phase v.mark → CancelledAt job v.phase (guest_by job v g op a).mark
guest_at job v g op Alone k = pushed_at job v (length v.history + 1) k
guest_at job v g op Store k = pushed_at job v (length v.history + 1) k
guest_at job v g op Join k = k
guest_at job v g op Mirror k = pushed_at job v (length v.history + 1) k

reached : (cancel : Option ℕ) (n : ℕ) → reaches cancel n ≡ true → cancel ≡ Some n
reached None n h = absurd (cc)
reached (Some k) n h = ap Some (sym (eqb-true n k h))

cancel_at : (job : Job) (v : View) → IsViewOf job v → CancelGoes job v → job.config.cancel ≡ Some v.mark
cancel_at job v i goes = reached job.config.cancel (length v.history) goes.reached ∙ ap Some (sym (i.history.marked goes.live))

cancelled-keep : (job : Job) (v : View) → IsViewOf job v → CancelledAt job v.phase v.mark → EffectsKeep (λ w. CancelledAt job w.phase w.mark) job v
cancelled-keep job v i k = record {
  guest = λ g m goes. guest_at job v g (next_operation job v g) (next_aim job v g) k;
  guest_fault = λ g m goes. pushed_at job v (length v.history + 1) k;
  begin = λ d l goes. k;
  read = λ d l goes. k;
  advance = λ d l goes. k;
  release = λ d l goes. pushed_at job v (length v.history + 1) k;
  release_fault = λ d l goes. pushed_at job v (length v.history + 1) k;
  round = λ goes. k;
  page = λ goes. k;
  send = λ s m goes. k;
  deliver = λ s m goes. k;
  apply = λ goes. k;
  ack = λ goes. k;
  credit = λ goes. k;
  stun = λ goes. record { at = λ h. dead h };
  switch = λ goes. record { at = λ h. dead h };
  cancel = λ goes. record { at = λ h. cancel_at job v i goes };
  fail = λ live. record { at = λ h. dead h };
}

cancelled-from : (job : Job) (v : View) (journal : List Entry) → IsGoodJob job → list_all (λ (e : Entry). fits job e.event) journal ≡ true → IsViewOf job v → CancelledAt job v.phase v.mark → CancelledAt job (after job v journal).phase (after job v journal).mark
cancelled-from job v [] good f i k = k
cancelled-from job v (e ∷ es) good f i k =
    let flag = is_flagged e.turn in
    let fit = and_parts (fits job e.event) (list_all (λ (x : Entry). fits job x.event) es) f in
    cancelled-from job (step job v e.event flag) es good fit.1 (step-holds job v e.event flag good fit.0 i)
    (step_keeps (λ w. CancelledAt job w.phase w.mark) job v e.event flag fit.0 k (cancelled-keep job v i k))

pub run-mark : (job : Job) (journal : List Entry) → IsGoodJob job → list_all (λ (e : Entry). fits job e.event) journal ≡ true → is_cancelled (run job journal).phase ≡ true → job.config.cancel ≡ Some (run job journal).mark
run-mark job journal good f h = (cancelled-from job (first_view job) journal good f (first_view-holds job good) (record { at = λ c. dead c })).at h

-- the history at the cancel
at_cancel : (job : Job) (v : View) (e : Event) (flag : Bool) → e ≡ Cancel → wait job v e flag ≡ None → job.config.cancel ≡ Some (length v.history)
at_cancel job v e flag is w = reached job.config.cancel (length v.history) (cancel_goes job v flag (subst (λ (x : Event). wait job v x flag ≡ None) is w)).reached

pub history-at_cancel : (job : Job) (journal : List Entry) (e : Entry) → is_run job (journal ++ e ∷ []) ≡ true → e.event ≡ Cancel → job.config.cancel ≡ Some (length (run job journal).history)
history-at_cancel job journal e r is =
    let v = run job journal in
    let runs = and_parts (is_run job journal) (same_turn e.turn (turn job v e.event (is_flagged e.turn))) (sym (is_run-one job journal e) ∙ r) in
    at_cancel job v e.event (is_flagged e.turn) is (went_on job v e runs.1).goes

-- a phase that is over, and is neither failed nor one other, is the third
switched_left : (p : Phase) → is_live p ≡ false → is_failed p ≡ false → (is_cancelled p ≡ true → ⊥) → is_switched p ≡ true
switched_left Running l f c = absurd (cc)
switched_left Stunned l f c = absurd (cc)
switched_left Switched l f c = refl
switched_left Cancelled l f c = absurd (c refl)
switched_left Failed l f c = absurd (cc)

cancelled_left : (p : Phase) → is_live p ≡ false → is_failed p ≡ false → is_switched p ≡ false → is_cancelled p ≡ true
cancelled_left Running l f s = absurd (cc)
cancelled_left Stunned l f s = absurd (cc)
cancelled_left Switched l f s = absurd (cc)
cancelled_left Cancelled l f s = refl
cancelled_left Failed l f s = absurd (cc)

not_asked : (cancel : Option ℕ) (n : ℕ) → is_some cancel ≡ false → cancel ≡ Some n → ⊥
not_asked None n h e = cc
not_asked (Some k) n h e = cc

pub finished-switched : (job : Job) (journal : List Entry) → IsGoodJob job → list_all (λ (e : Entry). fits job e.event) journal ≡ true → is_run job journal ≡ true → has_failure journal ≡ false → has_cancel job ≡ false → is_finished job (run job journal) ≡ true → is_switched (run job journal).phase ≡ true
finished-switched job journal good f r none asked h =
    switched_left (run job journal).phase (finished job (run job journal) h).still (run-failed job journal r ∙ none)
    (λ c. not_asked job.config.cancel (run job journal).mark asked (run-mark job journal good f c))

pub finished-cancelled : (job : Job) (journal : List Entry) → IsGoodJob job → list_all (λ (e : Entry). fits job e.event) journal ≡ true → is_run job journal ≡ true → has_failure journal ≡ false → has_cancel job ≡ true → is_finished job (run job journal) ≡ true → is_cancelled (run job journal).phase ≡ true
finished-cancelled job journal good f r none asked h =
    cancelled_left (run job journal).phase (finished job (run job journal) h).still (run-failed job journal r ∙ none) (run-never_switched job journal good f asked)

-- where no entry is flagged none failed, and where no fault is planned none is flagged
or_none : (a b : Bool) → (a || b) ≡ false → (a ≡ false) × (b ≡ false)
or_none true b h = absurd (cc)
or_none false b h = (refl, h)

unflagged : (t : Turn) → is_flagged t ≡ false → is_failure t ≡ false
unflagged (Done n) h = refl
unflagged Queued h = refl
unflagged Faulted h = refl
unflagged (Waits why) h = refl
unflagged (Broke cause) h = absurd (cc)

pub no_flag-no_failure : (journal : List Entry) → list_any (λ (e : Entry). is_flagged e.turn) journal ≡ false → has_failure journal ≡ false
no_flag-no_failure [] h = refl
no_flag-no_failure (e ∷ es) h =
    let p = or_none (is_flagged e.turn) (list_any (λ (x : Entry). is_flagged x.turn) es) h in
    rw (unflagged e.turn p.0) (no_flag-no_failure es p.1)

and-none : (b : Bool) → (b && false) ≡ false
and-none true = refl
and-none false = refl

not_planned : (a b : Bool) → same_truth a b ≡ true → b ≡ false → a ≡ false
not_planned true b h e = absurd (both_ways b e h)
not_planned false b h e = refl

no_flags-from : (job : Job) (v : View) (calls : List Call) (journal : List Entry) → job.faults ≡ [] → is_faithful_from job v calls journal ≡ true → list_any (λ (e : Entry). is_flagged e.turn) journal ≡ false
no_flags-from job v calls [] none h = refl
no_flags-from job v calls (e ∷ es) none h =
    let c = call job v e.event in
    let next = step job v e.event (is_flagged e.turn) in
    let p = and_parts (same_truth (is_flagged e.turn) (is_planned job.faults calls c)) (is_faithful_from job next (calls ++ c ∷ []) es) h in
    let planned : is_planned job.faults calls c ≡ false = rw none (and-none (is_call c)) in
    rw (not_planned (is_flagged e.turn) (is_planned job.faults calls c) p.0 planned) (no_flags-from job next (calls ++ c ∷ []) es none p.1)

pub no_faults-no_flag : (job : Job) (journal : List Entry) → job.faults ≡ [] → is_faithful job journal ≡ true → list_any (λ (e : Entry). is_flagged e.turn) journal ≡ false
no_faults-no_flag job journal none h = no_flags-from job (first_view job) [] journal none h

-- the driven run
driven-unfailed : (job : Job) → IsGoodJob job → job.faults ≡ [] → has_failure (driven job) ≡ false
driven-unfailed job good none = no_flag-no_failure (driven job) (no_faults-no_flag job (driven job) none (driven-ends job good).faithful)

pub driven-switched : (job : Job) → IsGoodJob job → job.faults ≡ [] → has_cancel job ≡ false → is_switched (run job (driven job)).phase ≡ true
driven-switched job good none asked = let d = driven-ends job good in finished-switched job (driven job) good d.fitting d.runs (driven-unfailed job good none) asked d.finished

pub driven-cancelled : (job : Job) → IsGoodJob job → job.faults ≡ [] → has_cancel job ≡ true → is_cancelled (run job (driven job)).phase ≡ true
driven-cancelled job good none asked = let d = driven-ends job good in finished-cancelled job (driven job) good d.fitting d.runs (driven-unfailed job good none) asked d.finished

-- Where the phase is not live, only what the guests ask for goes on, and it changes the history and the queues alone.
use Rattle.std.specs.Prelude.{◌≡◌, ℕ, ◌+◌, Bool, true, false, List, [], ◌∷◌, ◌++◌, length, set, Option, Some, None, is_some, if◌then◌else◌}
use Rattle.std.proofs.Common.{refl, ap, sym, subst, ◌∙◌}
use Rattle.std.proofs.lemmas.Bool.{both_ways}
use Rattle.xv_model.specs.Job.{Job, UnitOp}
use Rattle.xv_model.specs.View.{View, Disk, no_disk, disk, front, is_running, is_live}
use Rattle.xv_model.specs.Wait.{Event, Why, Alone, aim, next_operation, wait}
use Rattle.xv_model.specs.Effect.{Outcome, made, front_gone, ended_as, guest_by, guest_done, released, effect, fault_effect}
use Rattle.xv_model.specs.Step.{step}
use Rattle.xv_model.specs.Ending.{is_guests}
use Rattle.xv_base.specs.declared.event.Phase.{Phase}
use Rattle.xv_base.specs.declared.event.Phase.TheVariants.{Running, Stunned, Switched, Cancelled, Failed}
use Rattle.xv_base.specs.declared.operation.Outcome.TheVariants.{Done, Faulted}
use Rattle.xv_base.specs.declared.event.Event.TheVariants.{Guest, Begin, Read, Advance, Release, Round, Page, Send, Deliver, Apply, Ack, Credit, Stun, Switch, Cancel}
use Rattle.xv_model.proofs.GoesOn.{begin_goes, read_goes, advance_goes, round_goes, page_goes, send_goes, deliver_goes, apply_goes, ack_goes, credit_goes, stun_goes, switch_goes, cancel_goes, running_is_live, stunned_is_live}
use Rattle.xv_model.proofs.Layouts.{kept_by}
use Rattle.xv_model.proofs.Steps.{step_cases}

pub dead_not_running : (p : Phase) → is_live p ≡ false → is_running p ≡ false
dead_not_running Running h = absurd (cc)
dead_not_running Stunned h = absurd (cc)
dead_not_running Switched h = refl
dead_not_running Cancelled h = refl
dead_not_running Failed h = refl

-- what goes on there is a guest's
pub dead_goes : (job : Job) (v : View) (e : Event) (flag : Bool) → is_live v.phase ≡ false → wait job v e flag ≡ None → is_guests e ≡ true
dead_goes job v (Guest g) flag dead w = refl
dead_goes job v (Release d) flag dead w = refl
dead_goes job v (Begin d) flag dead w = absurd (both_ways (is_live v.phase) dead (running_is_live v.phase (begin_goes job v d flag w).running))
dead_goes job v (Read d) flag dead w = absurd (both_ways (is_live v.phase) dead (running_is_live v.phase (read_goes job v d flag w).running))
dead_goes job v (Advance d) flag dead w = absurd (both_ways (is_live v.phase) dead (running_is_live v.phase (advance_goes job v d flag w).running))
dead_goes job v Round flag dead w = absurd (both_ways (is_live v.phase) dead (running_is_live v.phase (round_goes job v flag w).running))
dead_goes job v Page flag dead w = absurd (both_ways (is_live v.phase) dead (page_goes job v flag w).live)
dead_goes job v (Send s) flag dead w = absurd (both_ways (is_live v.phase) dead (send_goes job v s flag w).live)
dead_goes job v (Deliver s) flag dead w = absurd (both_ways (is_live v.phase) dead (deliver_goes job v s flag w).live)
dead_goes job v Apply flag dead w = absurd (both_ways (is_live v.phase) dead (apply_goes job v flag w).live)
dead_goes job v Ack flag dead w = absurd (both_ways (is_live v.phase) dead (ack_goes job v flag w).live)
dead_goes job v Credit flag dead w = absurd (both_ways (is_live v.phase) dead (credit_goes job v flag w).live)
dead_goes job v Stun flag dead w = absurd (both_ways (is_live v.phase) dead (running_is_live v.phase (stun_goes job v flag w).running))
dead_goes job v Switch flag dead w = absurd (both_ways (is_live v.phase) dead (stunned_is_live v.phase (switch_goes job v flag w).stunned))
dead_goes job v Cancel flag dead w = absurd (both_ways (is_live v.phase) dead (cancel_goes job v flag w).live)

waits_by : (why : Option Why) → (why ≡ None → ⊥) → is_some why ≡ true
waits_by None h = absurd (h refl)
waits_by (Some why) h = refl

pub dead_waits : (job : Job) (v : View) (e : Event) (flag : Bool) → is_live v.phase ≡ false → is_guests e ≡ false → is_some (wait job v e flag) ≡ true
dead_waits job v e flag dead other = waits_by (wait job v e flag) (λ w. both_ways (is_guests e) other (dead_goes job v e flag dead w))

-- a view with another history and other disks
abbrev pub with_ended : View → Outcome → ℕ → List Disk → View
with_ended v outcome guest disks = record v { history = v.history ++ record { guest = record { 0 = guest }; outcome = outcome } ∷ []; disks = disks }

dead_alone : (job : Job) (v : View) (op : UnitOp) → is_live v.phase ≡ false → aim job v op ≡ Alone
dead_alone job v op dead = rw (dead_not_running v.phase dead) refl

pub dead_guest : (job : Job) (v : View) (g : ℕ) → is_live v.phase ≡ false → guest_done job v g ≡ with_ended v Done g v.disks
dead_guest job v g dead =
    ap (guest_by job v g (next_operation job v g)) (dead_alone job v (next_operation job v g) dead)
    ∙ ap (λ (b : Bool). record (with_ended v Done g v.disks) { mark = if b then length v.history + 1 else v.mark }) dead

pub dead_fault : (v : View) (g : ℕ) → is_live v.phase ≡ false → ended_as v g Faulted ≡ with_ended v Faulted g v.disks
dead_fault v g dead = ap (λ (b : Bool). record (with_ended v Faulted g v.disks) { mark = if b then length v.history + 1 else v.mark }) dead

pub dead_release : (v : View) (d : ℕ) → is_live v.phase ≡ false → released v d ≡ with_ended v Done (front (disk v d)).guest.0 (set v.disks d (front_gone (disk v d)))
dead_release v d dead =
    let w = with_ended v Done (front (disk v d)).guest.0 (set v.disks d (front_gone (disk v d))) in
    ap (λ (b : Bool). record w { mark = if b then length v.history + 1 else v.mark; outbox = if is_running v.phase then made v.outbox (front (disk v d)).unit.0 (length v.history + 1) else v.outbox }) dead
    ∙ ap (λ (b : Bool). record w { outbox = if b then made v.outbox (front (disk v d)).unit.0 (length v.history + 1) else v.outbox }) (dead_not_running v.phase dead)

pub dead_release_fault : (v : View) (d : ℕ) → is_live v.phase ≡ false → fault_effect v (Release d) ≡ with_ended v Faulted (front (disk v d)).guest.0 (set v.disks d (front_gone (disk v d)))
dead_release_fault v d dead =
    ap (λ (b : Bool). record (with_ended v Faulted (front (disk v d)).guest.0 (set v.disks d (front_gone (disk v d)))) { mark = if b then length v.history + 1 else v.mark }) dead

-- what all that goes on there keeps, a step keeps
dead_went : (P : View → Type 0) (job : Job) (v : View) (e : Event) → is_live v.phase ≡ false → ((outcome : Outcome) (g : ℕ) → P (with_ended v outcome g v.disks)) →
    ((outcome : Outcome) (d : ℕ) → P (with_ended v outcome (front (disk v d)).guest.0 (set v.disks d (front_gone (disk v d))))) → is_guests e ≡ true → P (effect job v e)
dead_went P job v (Guest g) dead guests releases own = subst P (sym (dead_guest job v g.0 dead)) (guests Done g.0)
dead_went P job v (Release d) dead guests releases own = subst P (sym (dead_release v d dead)) (releases Done d)
dead_went P job v e dead guests releases own = absurd (cc)

dead_broke : (P : View → Type 0) (job : Job) (v : View) (e : Event) → is_live v.phase ≡ false → ((outcome : Outcome) (g : ℕ) → P (with_ended v outcome g v.disks)) →
    ((outcome : Outcome) (d : ℕ) → P (with_ended v outcome (front (disk v d)).guest.0 (set v.disks d (front_gone (disk v d))))) → is_guests e ≡ true → P (fault_effect v e)
dead_broke P job v (Guest g) dead guests releases own = subst P (sym (dead_fault v g.0 dead)) (guests Faulted g.0)
dead_broke P job v (Release d) dead guests releases own = subst P (sym (dead_release_fault v d dead)) (releases Faulted d)
dead_broke P job v e dead guests releases own = absurd (cc)

pub dead_keeps : (P : View → Type 0) (job : Job) (v : View) (e : Event) (flag : Bool) → is_live v.phase ≡ false → P v → ((outcome : Outcome) (g : ℕ) → P (with_ended v outcome g v.disks)) →
    ((outcome : Outcome) (d : ℕ) → P (with_ended v outcome (front (disk v d)).guest.0 (set v.disks d (front_gone (disk v d))))) → P (step job v e flag)
dead_keeps P job v e flag dead here guests releases =
    step_cases P job v e flag here (λ w b. dead_went P job v e dead guests releases (dead_goes job v e flag dead w)) (λ w b. dead_broke P job v e dead guests releases (dead_goes job v e flag dead w))

pub dead-phase : (job : Job) (v : View) (e : Event) (flag : Bool) → is_live v.phase ≡ false → (step job v e flag).phase ≡ v.phase
dead-phase job v e flag dead = dead_keeps (λ w. w.phase ≡ v.phase) job v e flag dead refl (λ outcome g. refl) (λ outcome d. refl)

pub dead-rest : (job : Job) (v : View) (e : Event) (flag : Bool) → is_live v.phase ≡ false → step job v e flag ≡ record v { history = (step job v e flag).history; disks = (step job v e flag).disks }
dead-rest job v e flag dead = dead_keeps (λ w. w ≡ record v { history = w.history; disks = w.disks }) job v e flag dead refl (λ outcome g. refl) (λ outcome d. refl)

pub dead-cursors : (job : Job) (v : View) (e : Event) (flag : Bool) (d : ℕ) → is_live v.phase ≡ false → (disk (step job v e flag) d).cursor ≡ (disk v d).cursor
dead-cursors job v e flag d dead =
    dead_keeps (λ w. (disk w d).cursor ≡ (disk v d).cursor) job v e flag dead refl (λ outcome g. refl) (λ outcome i. kept_by (λ (k : Disk). k.cursor) v.disks i (front_gone (disk v i)) no_disk d refl)

pub dead-regions : (job : Job) (v : View) (e : Event) (flag : Bool) (d : ℕ) → is_live v.phase ≡ false → (disk (step job v e flag) d).region ≡ (disk v d).region
dead-regions job v e flag d dead =
    dead_keeps (λ w. (disk w d).region ≡ (disk v d).region) job v e flag dead refl (λ outcome g. refl) (λ outcome i. kept_by (λ (k : Disk). k.region) v.disks i (front_gone (disk v i)) no_disk d refl)

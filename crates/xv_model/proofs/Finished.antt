-- Where the run is finished every event waits, and so the driver finds none; and it finds none only there.
use Rattle.std.specs.Prelude.{◌≡◌, ℕ, ◌%◌, ◌&&◌, not, nat_le, Bool, true, false, List, [], ◌∷◌, length, Option, Some, None, is_none, is_some}
use Rattle.std.proofs.Common.{refl, ap, inl, inr}
use Rattle.std.proofs.lemmas.Bool.{cases_Bool, and_right, le-leb}
use Rattle.xv_model.specs.Job.{Job, IsGoodJob, trace}
use Rattle.xv_model.specs.Guest.{ended}
use Rattle.xv_model.specs.View.{View, disk, is_live, is_running, is_stunned, is_empty, queues_empty}
use Rattle.xv_model.specs.Wait.{Event, Why, wait, unless, reaches, cancel_due}
use Rattle.xv_model.specs.Invariant.{IsViewOf}
use Rattle.xv_model.specs.Work.{is_finished, all_ended_from}
use Rattle.xv_model.specs.Driver.{driver_events, first_able, from_place, next_event}
use Rattle.xv_base.specs.declared.event.Event.TheVariants.{Guest, Begin, Read, Advance, Release, Round, Page, Send, Deliver, Apply, Ack, Credit, Stun, Switch, Cancel}
use Rattle.xv_model.proofs.Left.{guest_ended, queue_is_empty}
use Rattle.xv_model.proofs.NeverStuck.{still_not_running, still_not_stunned}
use Rattle.xv_model.proofs.Drivers.{driver_finds}

-- what a finished run is
pub record Finished (job : Job) (v : View) : Type 0 where
  pub still : is_live v.phase ≡ false
  pub all : all_ended_from 0 job.traces v.history ≡ true
  pub queues : queues_empty v.disks ≡ true

three_parts : (a b c : Bool) → (not a && b && c) ≡ true → (a ≡ false) × (b ≡ true) × (c ≡ true)
three_parts true b c e = absurd (cc)
three_parts false true true e = (refl, refl, refl)
three_parts false true false e = absurd (cc)
three_parts false false c e = absurd (cc)

pub finished : (job : Job) (v : View) → is_finished job v ≡ true → Finished job v
finished job v e =
    let p = three_parts (is_live v.phase) (all_ended_from 0 job.traces v.history) (queues_empty v.disks) e in
    record { still = p.0; all = p.1; queues = p.2 }

waits_where : (b : Bool) (why : Why) (later : Option Why) → b ≡ true → is_some (unless b why later) ≡ true
waits_where true why later e = refl
waits_where false why later e = absurd (cc)

pub each_waits : (job : Job) (v : View) (e : Event) (flag : Bool) → Finished job v → is_some (wait job v e flag) ≡ true
each_waits job v (Guest g) flag f = waits_where (nat_le (length (trace job g.0)) (ended v.history g.0)) _ _ (le-leb (length (trace job g.0)) (ended v.history g.0) (guest_ended job v.history g.0 f.all))
each_waits job v (Begin d) flag f = waits_where (not (is_running v.phase)) _ _ (ap not (still_not_running v.phase f.still))
each_waits job v (Read d) flag f = waits_where (not (is_running v.phase)) _ _ (ap not (still_not_running v.phase f.still))
each_waits job v (Advance d) flag f = waits_where (not (is_running v.phase)) _ _ (ap not (still_not_running v.phase f.still))
each_waits job v (Release d) flag f = waits_where (is_empty (disk v d).queue) _ _ (queue_is_empty v.disks d f.queues)
each_waits job v Round flag f = waits_where (not (is_running v.phase)) _ _ (ap not (still_not_running v.phase f.still))
each_waits job v Page flag f = waits_where (not (is_live v.phase)) _ _ (ap not f.still)
each_waits job v (Send s) flag f = waits_where (not (is_live v.phase)) _ _ (ap not f.still)
each_waits job v (Deliver s) flag f = waits_where (not (is_live v.phase)) _ _ (ap not f.still)
each_waits job v Apply flag f = waits_where (not (is_live v.phase)) _ _ (ap not f.still)
each_waits job v Ack flag f = waits_where (not (is_live v.phase)) _ _ (ap not f.still)
each_waits job v Credit flag f = waits_where (not (is_live v.phase)) _ _ (ap not f.still)
each_waits job v Stun flag f = waits_where (not (is_running v.phase)) _ _ (ap not (still_not_running v.phase f.still))
each_waits job v Switch flag f = waits_where (not (is_stunned v.phase)) _ _ (ap not (still_not_stunned v.phase f.still))
each_waits job v Cancel flag f = waits_where (not (cancel_due job v)) _ _ (ap not (and_right (reaches job.config.cancel (length v.history)) (is_live v.phase) f.still))

pub finished-waits : (job : Job) (v : View) (e : Event) (flag : Bool) → is_finished job v ≡ true → is_some (wait job v e flag) ≡ true
finished-waits job v e flag h = each_waits job v e flag (finished job v h)

some_not_none : {X : Type 0} (o : Option X) → is_some o ≡ true → is_none o ≡ false
some_not_none (Some x) e = refl
some_not_none None e = absurd (cc)

none_able : (job : Job) (v : View) (es : List Event) → ((e : Event) → is_some (wait job v e false) ≡ true) → first_able job v es ≡ None
none_able job v [] waits = refl
none_able job v (x ∷ es) waits = rw (some_not_none (wait job v x false) (waits x)) (none_able job v es waits)

pub driver_none : (job : Job) (v : View) (n : ℕ) → is_finished job v ≡ true → next_event job v n ≡ None
driver_none job v n h = none_able job v (from_place (driver_events job) (n % length (driver_events job))) (λ e. each_waits job v e false (finished job v h))

some_none : (o : Option Event) (e : Event) → o ≡ Some e → o ≡ None → ⊥
some_none o e s n = cc

pub none_finished : (job : Job) (v : View) (n : ℕ) → IsGoodJob job → IsViewOf job v → next_event job v n ≡ None → is_finished job v ≡ true
none_finished job v n good inv none = elim (cases_Bool (is_finished job v)) [
  | inl e ↦ e
  | inr unfinished ↦ let f = driver_finds job v n good inv unfinished in absurd (some_none (next_event job v n) f.event f.is none)
]

-- A job with a cancel number never switches, does not pass that number, and stuns only at it.
use Rattle.std.proofs.Common.{◌≡◌, ℕ, ◌+◌, ◌≤◌, ◌==◌, ◌&&◌, Bool, true, false, is_some, length, Option, Some, None, refl, arith}
use Rattle.std.proofs.lemmas.List.{length_push}
use Rattle.std.proofs.lemmas.Bool.{eqb-false, ltb-false, both_ways}
use Rattle.xv_model.specs.Job.{Job, IsGoodJob, UnitOp}
use Rattle.xv_model.specs.Guest.{Ended}
use Rattle.xv_model.specs.View.{View, disk, front, is_live, is_stunned}
use Rattle.xv_model.specs.Wait.{Event, Aim, Alone, Store, Join, Mirror, next_operation, next_aim, fits, reaches, is_before, cancel_due}
use Rattle.xv_model.specs.Effect.{guest_by}
use Rattle.xv_model.specs.Step.{step}
use Rattle.xv_model.specs.Invariant.{CancelHolds, IsViewOf}
use Rattle.xv_base.specs.declared.operation.Outcome.TheVariants.{Done, Faulted}
use Rattle.xv_model.proofs.GoesOn.{running_is_live}
use Rattle.xv_model.proofs.Histories.{push}
use Rattle.xv_model.proofs.Legal.{waiting_not_stunned}
use Rattle.xv_model.proofs.Steps.{EffectsKeep, step_keeps}

-- a history that has not reached the number is below it
plain : (b : Bool) → (b && true) ≡ false → b ≡ false
plain true h = h
plain false h = refl

below_by : (n j : ℕ) (live : Bool) → ((n == j) && live) ≡ false → live ≡ true → n ≤ j → n + 1 ≤ j
below_by n j true h l le = let apart = eqb-false n j (plain (n == j) h) in grind (arith, apart)
below_by n j false h l le = absurd (cc)

not_due_below : (cancel : Option ℕ) (live : Bool) (n k : ℕ) → (reaches cancel n && live) ≡ false → cancel ≡ Some k → live ≡ true → n ≤ k → n + 1 ≤ k
not_due_below None live n k h e l le = absurd (cc)
not_due_below (Some j) live n k h e l le =
    let same : j ≡ k = cc in
    omega (arith, below_by n j live h l (omega arith))

not_before_from : (cancel : Option ℕ) (n k : ℕ) → is_before cancel n ≡ false → cancel ≡ Some k → k ≤ n
not_before_from None n k h e = absurd (cc)
not_before_from (Some j) n k h e =
    let same : j ≡ k = cc in
    omega (arith, ltb-false n j h)

no_cancel_none : (cancel : Option ℕ) (k : ℕ) → is_some cancel ≡ false → cancel ≡ Some k → ⊥
no_cancel_none None k h e = cc
no_cancel_none (Some j) k h e = cc

dead : {A : Type 0} → false ≡ true → A
dead h = absurd (cc)

pushed_cancel : (job : Job) (v : View) (e : Ended) → IsViewOf job v → cancel_due job v ≡ false → is_stunned v.phase ≡ false → CancelHolds job.config.cancel v.phase (length (push v.history e))
pushed_cancel job v e i due calm =
    let c = i.cancel in
    let n = length_push v.history e in
    record {
      never_switched = c.never_switched;
      not_past = λ k is live. omega (arith, not_due_below job.config.cancel (is_live v.phase) (length v.history) k due is live (c.not_past k is live));
      stunned_at = λ k is s. absurd (both_ways (is_stunned v.phase) calm s);
    }

guest_cancel : (job : Job) (v : View) (g : ℕ) (op : UnitOp) (a : Aim) → IsViewOf job v → cancel_due job v ≡ false → is_stunned v.phase ≡ false → CancelHolds job.config.cancel v.phase (length (guest_by job v g op a).history)
guest_cancel job v g op Alone i due calm = pushed_cancel job v (record { guest = record { 0 = g }; outcome = Done }) i due calm
guest_cancel job v g op Store i due calm = pushed_cancel job v (record { guest = record { 0 = g }; outcome = Done }) i due calm
guest_cancel job v g op Join i due calm = i.cancel
guest_cancel job v g op Mirror i due calm = pushed_cancel job v (record { guest = record { 0 = g }; outcome = Done }) i due calm

pub cancel-keep : (job : Job) (v : View) → IsGoodJob job → IsViewOf job v → EffectsKeep (λ w. CancelHolds job.config.cancel w.phase (length w.history)) job v
cancel-keep job v good i =
    let c = i.cancel in
    record {
      guest = λ g m goes. guest_cancel job v g (next_operation job v g) (next_aim job v g) i goes.not_due goes.not_stunned;
      guest_fault = λ g m goes. pushed_cancel job v (record { guest = record { 0 = g }; outcome = Faulted }) i goes.not_due goes.not_stunned;
      begin = λ d l goes. c;
      read = λ d l goes. c;
      advance = λ d l goes. c;
      release = λ d l goes. pushed_cancel job v (record { guest = (front (disk v d)).guest; outcome = Done }) i goes.not_due (waiting_not_stunned job v d i goes.some_queue);
      release_fault = λ d l goes. pushed_cancel job v (record { guest = record { 0 = (front (disk v d)).guest.0 }; outcome = Faulted }) i goes.not_due (waiting_not_stunned job v d i goes.some_queue);
      round = λ goes. c;
      page = λ goes. c;
      send = λ s m goes. c;
      deliver = λ s m goes. c;
      apply = λ goes. c;
      ack = λ goes. c;
      credit = λ goes. c;
      stun = λ goes. record {
        never_switched = λ k is. refl;
        not_past = λ k is l. c.not_past k is (running_is_live v.phase goes.running);
        stunned_at = λ k is s. omega (arith, not_before_from job.config.cancel (length v.history) k goes.not_before is, c.not_past k is (running_is_live v.phase goes.running));
      };
      switch = λ goes. record {
        never_switched = λ k is. absurd (no_cancel_none job.config.cancel k goes.no_cancel is);
        not_past = λ k is l. dead l;
        stunned_at = λ k is s. dead s;
      };
      cancel = λ goes. record { never_switched = λ k is. refl; not_past = λ k is l. dead l; stunned_at = λ k is s. dead s };
      fail = λ live. record { never_switched = λ k is. refl; not_past = λ k is l. dead l; stunned_at = λ k is s. dead s };
    }

pub cancel-step : (job : Job) (v : View) (e : Event) (flag : Bool) → IsGoodJob job → fits job e ≡ true → IsViewOf job v → CancelHolds job.config.cancel (step job v e flag).phase (length (step job v e flag).history)
cancel-step job v e flag good f i = step_keeps (λ w. CancelHolds job.config.cancel w.phase (length w.history)) job v e flag f i.cancel (cancel-keep job v good i)

-- The history stays legal, and the mark is where it should be.
use Rattle.std.proofs.Common.{◌≡◌, ℕ, zero, suc, ◌+◌, ◌<◌, ◌≤◌, ◌==◌, ◌||◌, Bool, true, false, if◌then◌else◌, is_some, List, [], ◌∷◌, length, get_or, Option, Some, None, refl, sym, ap, subst, inl, inr, arith}
use Rattle.std.proofs.lemmas.List.{length_push}
use Rattle.std.proofs.lemmas.Bool.{cases_Bool, cases_eq, and_parts, or_parts}
use Rattle.xv_model.specs.Job.{Job, IsGoodJob, UnitOp, trace, no_operation}
use Rattle.xv_model.specs.Guest.{Ended, ended, writes_to}
use Rattle.xv_model.specs.View.{View, Phase, disk, front, is_running, is_live, is_stunned, is_switched}
use Rattle.xv_model.specs.Wait.{Event, Aim, Alone, Store, Join, Mirror, next_operation, next_aim, fits}
use Rattle.xv_model.specs.Effect.{guest_by}
use Rattle.xv_model.specs.Step.{step}
use Rattle.xv_model.specs.Invariant.{HistoryIsLegal, IsViewOf}
use Rattle.xv_base.specs.declared.event.Phase.TheVariants.{Switched, Cancelled, Failed}
use Rattle.xv_base.specs.declared.operation.Outcome.TheVariants.{Done, Faulted}
use Rattle.xv_model.proofs.GoesOn.{running_is_live, live_is_running, queues_empty-queue}
use Rattle.xv_model.proofs.Histories.{push, ended-push_same, ended-push_other}
use Rattle.xv_model.proofs.Steps.{EffectsKeep, step_keeps}

-- an operation that writes is one of its guest's
some_operation : (ops : List UnitOp) (k : ℕ) → is_some (get_or ops k no_operation).write ≡ true → k < length ops
some_operation [] k h = absurd (cc)
some_operation (op ∷ ops) zero h = omega arith
some_operation (op ∷ ops) (suc k) h = omega (arith, some_operation ops k h)

-- the guest at the front of a queue has an operation to come, which writes to the unit that it waits for
pub front_writes : (job : Job) (v : View) (d : ℕ) → IsViewOf job v → 0 < length (disk v d).queue → writes_to (next_operation job v (front (disk v d)).guest.0) (front (disk v d)).unit.0 ≡ true
front_writes job v d i l = i.queues.to_write d 0 l

pub front_has_more : (job : Job) (v : View) (d : ℕ) → IsViewOf job v → 0 < length (disk v d).queue → ended v.history (front (disk v d)).guest.0 < length (trace job (front (disk v d)).guest.0)
front_has_more job v d i l =
    let g = (front (disk v d)).guest.0 in
    let op = next_operation job v g in
    some_operation (trace job g) (ended v.history g) (and_parts (is_some op.write) (op.unit.0 == (front (disk v d)).unit.0) (front_writes job v d i l)).0

-- where a guest waits, the guest is neither stunned nor switched
pub waiting_not_quiet : (job : Job) (v : View) (d : ℕ) → IsViewOf job v → 0 < length (disk v d).queue → (is_stunned v.phase || is_switched v.phase) ≡ false
waiting_not_quiet job v d i l = elim (cases_Bool (is_stunned v.phase || is_switched v.phase)) [
  | inl e ↦
      let none = queues_empty-queue v.disks d (i.quiet.no_queue e) in
      absurd (omega (arith, ap length none))
  | inr e ↦ e
]

pub waiting_not_stunned : (job : Job) (v : View) (d : ℕ) → IsViewOf job v → 0 < length (disk v d).queue → is_stunned v.phase ≡ false
waiting_not_stunned job v d i l = (or_parts (is_stunned v.phase) (is_switched v.phase) (waiting_not_quiet job v d i l)).0

-- the mark after one more entry
marked_by : (live : Bool) (n mark k : ℕ) → k ≡ n + 1 → live ≡ true → (if live then n + 1 else mark) ≡ k
marked_by true n mark k e l = sym e
marked_by false n mark k e l = absurd (cc)

within_by : (live : Bool) (n mark k : ℕ) → k ≡ n + 1 → mark ≤ n → (if live then n + 1 else mark) ≤ k
within_by true n mark k e l = omega arith
within_by false n mark k e l = omega arith

at_mark_by : (live : Bool) (n mark k : ℕ) → (live ≡ true → ⊥) → n ≡ mark → n ≡ (if live then k + 1 else mark)
at_mark_by true n mark k h e = absurd (h refl)
at_mark_by false n mark k h e = e

some_none : (stun : Option ℕ) (n : ℕ) → stun ≡ Some n → stun ≡ None → ⊥
some_none stun n e f = cc

pushed_history : (job : Job) (v : View) (e : Ended) → IsViewOf job v → ended v.history e.guest.0 < length (trace job e.guest.0) → is_stunned v.phase ≡ false →
    HistoryIsLegal job (push v.history e) (if is_live v.phase then length v.history + 1 else v.mark) v.phase v.stun
pushed_history job v e i more calm =
    let h = i.history in
    let n = length_push v.history e in
    record {
      legal = λ g. elim (cases_eq e.guest.0 g) [
        | inl same ↦ subst (λ x. ended (push v.history e) x ≤ length (trace job x)) same (omega (arith, ended-push_same v.history e))
        | inr other ↦ omega (arith, ended-push_other v.history e g other, h.legal g)
      ];
      marked = marked_by (is_live v.phase) (length v.history) v.mark (length (push v.history e)) n;
      mark_within = within_by (is_live v.phase) (length v.history) v.mark (length (push v.history e)) n h.mark_within;
      not_stunned = h.not_stunned;
      at_mark = λ k s. at_mark_by (is_live v.phase) k v.mark (length v.history) (λ l. some_none v.stun k s (h.not_stunned (live_is_running v.phase l calm))) (h.at_mark k s);
    }

guest_history : (job : Job) (v : View) (g : ℕ) (op : UnitOp) (a : Aim) → IsViewOf job v → ended v.history g < length (trace job g) → is_stunned v.phase ≡ false →
    HistoryIsLegal job (guest_by job v g op a).history (guest_by job v g op a).mark v.phase v.stun
guest_history job v g op Alone i more calm = pushed_history job v (record { guest = record { 0 = g }; outcome = Done }) i more calm
guest_history job v g op Store i more calm = pushed_history job v (record { guest = record { 0 = g }; outcome = Done }) i more calm
guest_history job v g op Join i more calm = i.history
guest_history job v g op Mirror i more calm = pushed_history job v (record { guest = record { 0 = g }; outcome = Done }) i more calm

dead : {A : Type 0} → false ≡ true → A
dead h = absurd (cc)

over_history : (job : Job) (v : View) (p : Phase) → IsViewOf job v → (is_live p ≡ true → ⊥) → (is_running p ≡ true → ⊥) → HistoryIsLegal job v.history v.mark p v.stun
over_history job v p i over still =
    let h = i.history in
    record { legal = h.legal; marked = λ l. absurd (over l); mark_within = h.mark_within; not_stunned = λ r. absurd (still r); at_mark = h.at_mark }

stunned_mark : (mark n k : ℕ) → mark ≡ n → Some n ≡ Some k → k ≡ mark
stunned_mark mark n k e f = cc

pub history-keep : (job : Job) (v : View) → IsGoodJob job → IsViewOf job v → EffectsKeep (λ w. HistoryIsLegal job w.history w.mark w.phase w.stun) job v
history-keep job v good i =
    let h = i.history in
    record {
      guest = λ g m goes. guest_history job v g (next_operation job v g) (next_aim job v g) i goes.more goes.not_stunned;
      guest_fault = λ g m goes. pushed_history job v (record { guest = record { 0 = g }; outcome = Faulted }) i goes.more goes.not_stunned;
      begin = λ d l goes. h;
      read = λ d l goes. h;
      advance = λ d l goes. h;
      release = λ d l goes. pushed_history job v (record { guest = (front (disk v d)).guest; outcome = Done }) i (front_has_more job v d i goes.some_queue) (waiting_not_stunned job v d i goes.some_queue);
      release_fault = λ d l goes. pushed_history job v (record { guest = record { 0 = (front (disk v d)).guest.0 }; outcome = Faulted }) i (front_has_more job v d i goes.some_queue) (waiting_not_stunned job v d i goes.some_queue);
      round = λ goes. h;
      page = λ goes. h;
      send = λ s m goes. h;
      deliver = λ s m goes. h;
      apply = λ goes. h;
      ack = λ goes. h;
      credit = λ goes. h;
      stun = λ goes. record {
        legal = h.legal;
        marked = λ l. h.marked (running_is_live v.phase goes.running);
        mark_within = h.mark_within;
        not_stunned = λ r. dead r;
        at_mark = λ k s. stunned_mark v.mark (length v.history) k (h.marked (running_is_live v.phase goes.running)) s;
      };
      switch = λ goes. over_history job v Switched i dead dead;
      cancel = λ goes. over_history job v Cancelled i dead dead;
      fail = λ live. over_history job v Failed i dead dead;
    }

pub history-step : (job : Job) (v : View) (e : Event) (flag : Bool) → IsGoodJob job → fits job e ≡ true → IsViewOf job v →
    HistoryIsLegal job (step job v e flag).history (step job v e flag).mark (step job v e flag).phase (step job v e flag).stun
history-step job v e flag good f i = step_keeps (λ w. HistoryIsLegal job w.history w.mark w.phase w.stun) job v e flag f i.history (history-keep job v good i)

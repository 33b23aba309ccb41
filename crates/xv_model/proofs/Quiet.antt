-- Once stunned nothing moves that a stun waited for.
use Rattle.std.proofs.Common.{◌≡◌, ℕ, ◌+◌, ◌≤◌, ◌||◌, Bool, true, false, if◌then◌else◌, List, length, map, Option, Some, refl, sym, ap, subst, ◌∙◌, arith}
use Rattle.std.proofs.lemmas.Bool.{both_ways, or_left}
use Rattle.xv_model.specs.Job.{Job, IsGoodJob, UnitOp}
use Rattle.xv_model.specs.View.{View, Phase, Disk, UnitHead, all_copied_by, is_running, is_live, is_stunned, is_switched, all_copied, queues_empty, is_empty_set}
use Rattle.xv_model.specs.Wait.{Event, Aim, Alone, Store, Join, Mirror, next_operation, next_aim, fits}
use Rattle.xv_model.specs.Effect.{guest_by, begun, block_read, advanced, released, round_begun, page_sent_off, sent, delivered, applied_next, acknowledged, credited, given_up, fault_effect}
use Rattle.xv_base.specs.declared.event.Event.TheVariants.{Release}
use Rattle.xv_model.specs.Step.{step}
use Rattle.xv_model.specs.Invariant.{StunIsQuiet, IsViewOf}
use Rattle.xv_base.specs.declared.event.Phase.TheVariants.{Running, Stunned, Switched, Cancelled, Failed}
use Rattle.xv_model.proofs.GoesOn.{running_is_live, aim-mirror, aim-join, aim-store, is_empty_set-none}
use Rattle.xv_model.proofs.Legal.{waiting_not_quiet}
use Rattle.xv_model.proofs.Steps.{EffectsKeep, step_keeps}

-- the point of a view
abbrev pub IsQuiet : Job → View → Type 0
IsQuiet job w = StunIsQuiet job.config.credit w.phase (all_copied job w) w.disks w.dirty w.to_send w.rounds w.stun w.mark w.outbox.messages w.credit

running_not_quiet : (p : Phase) → is_running p ≡ true → (is_stunned p || is_switched p) ≡ false
running_not_quiet Running h = refl
running_not_quiet Stunned h = absurd (cc)
running_not_quiet Switched h = absurd (cc)
running_not_quiet Cancelled h = absurd (cc)
running_not_quiet Failed h = absurd (cc)

live_not_switched : (p : Phase) → is_live p ≡ true → is_switched p ≡ true → ⊥
live_not_switched Running h s = cc
live_not_switched Stunned h s = cc
live_not_switched Switched h s = cc
live_not_switched Cancelled h s = cc
live_not_switched Failed h s = cc

switched_not_live : (p : Phase) → is_stunned p ≡ false → (is_stunned p || is_switched p) ≡ true → is_live p ≡ false
switched_not_live Running h s = absurd (cc)
switched_not_live Stunned h s = absurd (cc)
switched_not_live Switched h s = refl
switched_not_live Cancelled h s = absurd (cc)
switched_not_live Failed h s = absurd (cc)

switched_quiet : (p : Phase) → is_switched p ≡ true → (is_stunned p || is_switched p) ≡ true
switched_quiet Running h = absurd (cc)
switched_quiet Stunned h = refl
switched_quiet Switched h = refl
switched_quiet Cancelled h = absurd (cc)
switched_quiet Failed h = absurd (cc)

-- where the phase is neither stunned nor switched there is nothing to show
pub loud : (whole : ℕ) (p : Phase) (copied : Bool) (disks : List Disk) (dirty to_send : List Bool) (rounds : ℕ) (stun : Option ℕ) (mark : ℕ) (messages : List UnitHead) (credit : ℕ) → (is_stunned p || is_switched p) ≡ false →
    StunIsQuiet whole p copied disks dirty to_send rounds stun mark messages credit
loud whole p copied disks dirty to_send rounds stun mark messages credit h =
    record {
      all_copied = λ q. absurd (both_ways _ h q);
      no_queue = λ q. absurd (both_ways _ h q);
      none_dirty = λ q. absurd (both_ways _ h q);
      some_round = λ q. absurd (both_ways _ h q);
      has_stun = λ q. absurd (both_ways _ h q);
      none_to_send = λ s. absurd (both_ways _ h (switched_quiet p s));
      none_made = λ s. absurd (both_ways _ h (switched_quiet p s));
      credit_whole = λ s. absurd (both_ways _ h (switched_quiet p s));
    }

loud_view : (job : Job) (w : View) → (is_stunned w.phase || is_switched w.phase) ≡ false → IsQuiet job w
loud_view job w h = loud job.config.credit w.phase (all_copied job w) w.disks w.dirty w.to_send w.rounds w.stun w.mark w.outbox.messages w.credit h

-- what has to stay while the phase is live and no guest runs
live_quiet : (job : Job) (v w : View) → IsQuiet job v → is_live v.phase ≡ true → w.phase ≡ v.phase → w.disks ≡ v.disks → w.dirty ≡ v.dirty → w.rounds ≡ v.rounds → w.stun ≡ v.stun → w.mark ≡ v.mark → IsQuiet job w
live_quiet job v w q live p ds di ro st ma =
    let keep = λ (h : (is_stunned w.phase || is_switched w.phase) ≡ true). subst (λ x. (is_stunned x || is_switched x) ≡ true) p h in
    let stop = λ (h : is_switched w.phase ≡ true). live_not_switched v.phase live (subst (λ x. is_switched x ≡ true) p h) in
    record {
      all_copied = λ h. subst (λ x. all_copied_by (map (λ s. s.blocks) job.copy.disks) x ≡ true) (sym ds) (q.all_copied (keep h));
      no_queue = λ h. subst (λ x. queues_empty x ≡ true) (sym ds) (q.no_queue (keep h));
      none_dirty = λ h. subst (λ x. is_empty_set x ≡ true) (sym di) (q.none_dirty (keep h));
      some_round = λ h. subst (λ x. 1 ≤ x) (sym ro) (q.some_round (keep h));
      has_stun = λ h. st ∙ q.has_stun (keep h) ∙ ap Some (sym ma);
      none_to_send = λ h. absurd (stop h);
      none_made = λ h. absurd (stop h);
      credit_whole = λ h. absurd (stop h);
    }

mark_stays : (live : Bool) (n mark : ℕ) → live ≡ false → mark ≡ (if live then n + 1 else mark)
mark_stays true n mark h = absurd (cc)
mark_stays false n mark h = refl

-- an operation that ends where the guest is not stunned
alone_quiet : (job : Job) (v : View) → IsQuiet job v → is_stunned v.phase ≡ false → StunIsQuiet job.config.credit v.phase (all_copied job v) v.disks v.dirty v.to_send v.rounds v.stun (if is_live v.phase then length v.history + 1 else v.mark) v.outbox.messages v.credit
alone_quiet job v q calm =
    record {
      all_copied = q.all_copied;
      no_queue = q.no_queue;
      none_dirty = q.none_dirty;
      some_round = q.some_round;
      has_stun = λ h. q.has_stun h ∙ ap Some (mark_stays (is_live v.phase) (length v.history) v.mark (switched_not_live v.phase calm h));
      none_to_send = q.none_to_send;
      none_made = q.none_made;
      credit_whole = q.credit_whole;
    }

guest_quiet : (job : Job) (v : View) (g : ℕ) (op : UnitOp) (a : Aim) → IsQuiet job v → is_stunned v.phase ≡ false → (a ≡ Store → is_running v.phase ≡ true) → (a ≡ Join → is_running v.phase ≡ true) → (a ≡ Mirror → is_running v.phase ≡ true) → IsQuiet job (guest_by job v g op a)
guest_quiet job v g op Alone q calm s j m = alone_quiet job v q calm
guest_quiet job v g op Store q calm s j m = loud_view job (guest_by job v g op Store) (running_not_quiet v.phase (s refl))
guest_quiet job v g op Join q calm s j m = loud_view job (guest_by job v g op Join) (running_not_quiet v.phase (j refl))
guest_quiet job v g op Mirror q calm s j m = loud_view job (guest_by job v g op Mirror) (running_not_quiet v.phase (m refl))

dead : {A : Type 0} → false ≡ true → A
dead h = absurd (cc)

pub quiet-keep : (job : Job) (v : View) → IsGoodJob job → IsViewOf job v → EffectsKeep (IsQuiet job) job v
quiet-keep job v good i =
    let q = i.quiet in
    record {
      guest = λ g m goes.
          let op = next_operation job v g in
          guest_quiet job v g op (next_aim job v g) q goes.not_stunned (λ e. (aim-store job v op e).running) (λ e. (aim-join job v op e).running) (λ e. (aim-mirror job v op e).running);
      guest_fault = λ g m goes. alone_quiet job v q goes.not_stunned;
      begin = λ d l goes. loud_view job (begun job v d) (running_not_quiet v.phase goes.running);
      read = λ d l goes. loud_view job (block_read v d) (running_not_quiet v.phase goes.running);
      advance = λ d l goes. loud_view job (advanced job v d) (running_not_quiet v.phase goes.running);
      release = λ d l goes. loud_view job (released v d) (waiting_not_quiet job v d i goes.some_queue);
      release_fault = λ d l goes. loud_view job (fault_effect v (Release d)) (waiting_not_quiet job v d i goes.some_queue);
      round = λ goes. loud_view job (round_begun v) (running_not_quiet v.phase goes.running);
      page = λ goes. live_quiet job v (page_sent_off v) q goes.live refl refl refl refl refl refl;
      send = λ s m goes. live_quiet job v (sent job v s) q goes.live refl refl refl refl refl refl;
      deliver = λ s m goes. live_quiet job v (delivered v s) q goes.live refl refl refl refl refl refl;
      apply = λ goes. live_quiet job v (applied_next v) q goes.live refl refl refl refl refl refl;
      ack = λ goes. live_quiet job v (acknowledged v) q goes.live refl refl refl refl refl refl;
      credit = λ goes. live_quiet job v (credited v) q goes.live refl refl refl refl refl refl;
      stun = λ goes. record {
        all_copied = λ h. goes.copied;
        no_queue = λ h. goes.no_queue;
        none_dirty = λ h. is_empty_set-none (length v.dirty);
        some_round = λ h. goes.some_round;
        has_stun = λ h. ap Some (sym (i.history.marked (running_is_live v.phase goes.running)));
        none_to_send = λ h. dead h;
        none_made = λ h. dead h;
        credit_whole = λ h. dead h;
      };
      switch = λ goes.
          let still = or_left (is_stunned v.phase) (is_switched v.phase) goes.stunned in
          record {
            all_copied = λ h. q.all_copied still;
            no_queue = λ h. q.no_queue still;
            none_dirty = λ h. q.none_dirty still;
            some_round = λ h. q.some_round still;
            has_stun = λ h. q.has_stun still;
            none_to_send = λ h. goes.none_to_send;
            none_made = λ h. goes.none_made;
            credit_whole = λ h. omega (arith, goes.credit_back, i.credit.sums);
          };
      cancel = λ goes. loud_view job (given_up v Cancelled) refl;
      fail = λ live. loud_view job (given_up v Failed) refl;
    }

pub quiet-step : (job : Job) (v : View) (e : Event) (flag : Bool) → IsGoodJob job → fits job e ≡ true → IsViewOf job v → IsQuiet job (step job v e flag)
quiet-step job v e flag good f i = step_keeps (IsQuiet job) job v e flag f i.quiet (quiet-keep job v good i)

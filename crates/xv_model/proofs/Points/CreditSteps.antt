-- The credit stays whole, and the outbox within its limit, over each event.
use Rattle.std.specs.Prelude.{◌≡◌, ◌≤◌, ◌<◌, ℕ, ◌+◌, sum, Bool, true, false, List, [], ◌∷◌, ◌++◌, length, take, drop, None, if◌then◌else◌}
use Rattle.std.proofs.Common.{arith, refl, sym, inl, inr}
use Rattle.std.proofs.lemmas.Bool.{ltb-true, cases_lt}
use Rattle.std.proofs.lemmas.List.{length-take, length-drop, length_push, get_or_append_left, get_or_push, get_or-drop}
use Rattle.std.proofs.lemmas.List.Sums.{sum_by_push, sum_by-cons}
use Rattle.xv_model.specs.Job.{Job, UnitOp, IsGoodJob}
use Rattle.xv_model.specs.View.{View, UnitHead, disk, front, number, least, is_running, is_ready}
use Rattle.xv_model.specs.Wait.{Event, Aim, Alone, Store, Join, Mirror, wait, fits, next_operation, next_aim}
use Rattle.xv_model.specs.Effect.{effect, fault_effect, made, guest_by, advanced, released, page_sent_off, sent, batch, delivered, applied_next, acknowledged, credited, cursor_unit}
use Rattle.xv_model.specs.Step.{step}
use Rattle.xv_model.specs.Outstanding.{count, on_the_way, any}
use Rattle.xv_model.specs.Invariant.{CreditIsWhole, IsViewOf}
use Rattle.xv_base.specs.declared.event.Event.TheVariants.{Guest, Begin, Read, Advance, Release, Round, Page, Send, Deliver, Apply, Ack, Credit, Stun, Switch, Cancel}
use Rattle.xv_model.proofs.Bags.{new_message, length-messages-run, on_the_way-applied, on_the_way-sent, on_the_way-delivered}
use Rattle.xv_model.proofs.GoesOn.{guest_goes, advance_goes, release_goes, page_goes, send_goes, apply_goes, ack_goes, BatchFits, batch_fits}
use Rattle.xv_model.proofs.Steps.{step_cases}

-- the point of a view
abbrev pub IsWhole : Job → View → Type 0
IsWhole job v = CreditIsWhole job.config.credit job.config.outbox v.credit (on_the_way v) v.freed v.acks v.outbox.messages

pub count-any : (ms : List UnitHead) → count any ms ≡ length ms
count-any [] = refl
count-any (m ∷ ms) = let h = count-any ms in omega arith

-- the same credit beside other messages that fit
whole-messages : (job : Job) (v : View) (messages : List UnitHead) → IsViewOf job v → length messages ≤ job.config.outbox → CreditIsWhole job.config.credit job.config.outbox v.credit (on_the_way v) v.freed v.acks messages
whole-messages job v messages inv fits = record { sums = inv.credit.sums; each_ack = inv.credit.each_ack; outbox_fits = fits }

whole-made : (job : Job) (v : View) (unit at : ℕ) → IsViewOf job v → length v.outbox.messages < job.config.outbox → CreditIsWhole job.config.credit job.config.outbox v.credit (on_the_way v) v.freed v.acks (made v.outbox unit at).messages
whole-made job v unit at inv room = whole-messages job v (made v.outbox unit at).messages inv (omega (arith, length_push v.outbox.messages (new_message v.outbox unit at)))

pub whole-guest_by : (job : Job) (v : View) (g : ℕ) (op : UnitOp) (a : Aim) → IsViewOf job v → (a ≡ Mirror → length v.outbox.messages < job.config.outbox) → IsWhole job (guest_by job v g op a)
whole-guest_by job v g op Alone inv room = inv.credit
whole-guest_by job v g op Store inv room = inv.credit
whole-guest_by job v g op Join inv room = inv.credit
whole-guest_by job v g op Mirror inv room = whole-made job v op.unit.0 (length v.history + 1) inv (room refl)

pub whole-advanced : (job : Job) (v : View) (d : ℕ) → IsViewOf job v → length v.outbox.messages + (disk v d).region ≤ job.config.outbox → IsWhole job (advanced job v d)
whole-advanced job v d inv room = whole-messages job v (advanced job v d).outbox.messages inv (omega (arith, length-messages-run v.outbox (cursor_unit job v d) (length v.history) (disk v d).region))

whole-made_if : (job : Job) (v : View) (b : Bool) (unit at : ℕ) → IsViewOf job v → (b ≡ true → length v.outbox.messages < job.config.outbox) → CreditIsWhole job.config.credit job.config.outbox v.credit (on_the_way v) v.freed v.acks (if b then made v.outbox unit at else v.outbox).messages
whole-made_if job v true unit at inv room = whole-made job v unit at inv (room refl)
whole-made_if job v false unit at inv room = inv.credit

pub whole-released : (job : Job) (v : View) (d : ℕ) → IsViewOf job v → (is_running v.phase ≡ true → length v.outbox.messages < job.config.outbox) → IsWhole job (released v d)
whole-released job v d inv room = whole-made_if job v (is_running v.phase) (front (disk v d)).unit.0 (length v.history + 1) inv room

pub whole-page : (job : Job) (v : View) → IsViewOf job v → length v.outbox.messages < job.config.outbox → IsWhole job (page_sent_off v)
whole-page job v inv room = whole-made job v (least v.to_send) (length v.history) inv room

pub whole-sent : (job : Job) (v : View) (s : ℕ) → IsViewOf job v → s < length v.streams → BatchFits job v → IsWhole job (sent job v s)
whole-sent job v s inv there fits =
    let n = batch job v in
    let messages = v.outbox.messages in
    let a = on_the_way-sent job v s there any in
    let b = count-any (take n messages) in
    let c = length-take n messages in
    let d = fits.of_messages in
    let e = fits.of_credit in
    let f = inv.credit.sums in
    record {
      sums = omega arith;
      each_ack = inv.credit.each_ack;
      outbox_fits = let g = length-drop n messages in let h = inv.credit.outbox_fits in omega arith;
    }

pub whole-delivered : (job : Job) (v : View) (s : ℕ) → IsViewOf job v → s < length v.streams → IsWhole job (delivered v s)
whole-delivered job v s inv there = record {
  sums = let a = on_the_way-delivered v s there any in let b = inv.credit.sums in omega arith;
  each_ack = inv.credit.each_ack;
  outbox_fits = inv.credit.outbox_fits;
}

pub whole-applied_next : (job : Job) (v : View) → IsViewOf job v → is_ready v.hold ≡ true → IsWhole job (applied_next v)
whole-applied_next job v inv e = record {
  sums = let a = on_the_way-applied v e any in let b = inv.credit.sums in omega arith;
  each_ack = inv.credit.each_ack;
  outbox_fits = inv.credit.outbox_fits;
}

sum-push : (ns : List ℕ) (n : ℕ) → sum (ns ++ n ∷ []) ≡ sum ns + n
sum-push ns n = sum_by_push (λ (k : ℕ). k) ns n

sum-drop : (ns : List ℕ) → number ns 0 + sum (drop 1 ns) ≡ sum ns
sum-drop [] = refl
sum-drop (n ∷ ns) = sym (sum_by-cons (λ (k : ℕ). k) n ns)

pub whole-acknowledged : (job : Job) (v : View) → IsViewOf job v → 0 < v.freed → IsWhole job (acknowledged v)
whole-acknowledged job v inv some = record {
  sums = let a = sum-push v.acks v.freed in let b = inv.credit.sums in omega arith;
  each_ack = λ i there. elim (cases_lt i (length v.acks)) [
    | inl before ↦ let a = get_or_append_left v.acks (v.freed ∷ []) 0 i before in let b = inv.credit.each_ack i before in omega arith
    | inr past ↦ let a = get_or_push v.acks v.freed 0 i (omega (arith, length_push v.acks v.freed)) in omega arith
  ];
  outbox_fits = inv.credit.outbox_fits;
}

pub whole-credited : (job : Job) (v : View) → IsViewOf job v → IsWhole job (credited v)
whole-credited job v inv = record {
  sums = let a = sum-drop v.acks in let b = inv.credit.sums in omega arith;
  each_ack = λ i there. let a = get_or-drop 1 v.acks i 0 in let b = inv.credit.each_ack (1 + i) (omega (arith, length-drop 1 v.acks)) in omega arith;
  outbox_fits = inv.credit.outbox_fits;
}

whole-effect : (job : Job) (v : View) (e : Event) (flag : Bool) → IsGoodJob job → fits job e ≡ true → IsViewOf job v → wait job v e flag ≡ None → IsWhole job (effect job v e)
whole-effect job v (Guest g) flag good fit inv goes = whole-guest_by job v g.0 (next_operation job v g.0) (next_aim job v g.0) inv (guest_goes job v g.0 flag goes).has_room
whole-effect job v (Begin d) flag good fit inv goes = inv.credit
whole-effect job v (Read d) flag good fit inv goes = inv.credit
whole-effect job v (Advance d) flag good fit inv goes = whole-advanced job v d inv (advance_goes job v d flag goes).has_room
whole-effect job v (Release d) flag good fit inv goes = whole-released job v d inv (release_goes job v d flag goes).has_room
whole-effect job v Round flag good fit inv goes = inv.credit
whole-effect job v Page flag good fit inv goes = whole-page job v inv (page_goes job v flag goes).has_room
whole-effect job v (Send s) flag good fit inv goes = whole-sent job v s inv (let lt = ltb-true _ _ fit in omega (arith, inv.lists.streams)) (batch_fits job v good (send_goes job v s flag goes))
whole-effect job v (Deliver s) flag good fit inv goes = whole-delivered job v s inv (let lt = ltb-true _ _ fit in omega (arith, inv.lists.streams))
whole-effect job v Apply flag good fit inv goes = whole-applied_next job v inv (apply_goes job v flag goes).ready
whole-effect job v Ack flag good fit inv goes = whole-acknowledged job v inv (ack_goes job v flag goes).some_freed
whole-effect job v Credit flag good fit inv goes = whole-credited job v inv
whole-effect job v Stun flag good fit inv goes = inv.credit
whole-effect job v Switch flag good fit inv goes = inv.credit
whole-effect job v Cancel flag good fit inv goes = inv.credit

-- an event whose call fails moves no message and no credit
whole-fault : (job : Job) (v : View) (e : Event) → IsViewOf job v → IsWhole job (fault_effect v e)
whole-fault job v (Guest g) inv = inv.credit
whole-fault job v (Begin d) inv = inv.credit
whole-fault job v (Read d) inv = inv.credit
whole-fault job v (Advance d) inv = inv.credit
whole-fault job v (Release d) inv = inv.credit
whole-fault job v Round inv = inv.credit
whole-fault job v Page inv = inv.credit
whole-fault job v (Send s) inv = inv.credit
whole-fault job v (Deliver s) inv = inv.credit
whole-fault job v Apply inv = inv.credit
whole-fault job v Ack inv = inv.credit
whole-fault job v Credit inv = inv.credit
whole-fault job v Stun inv = inv.credit
whole-fault job v Switch inv = inv.credit
whole-fault job v Cancel inv = inv.credit

pub whole-step : (job : Job) (v : View) (e : Event) (flag : Bool) → IsGoodJob job → fits job e ≡ true → IsViewOf job v → IsWhole job (step job v e flag)
whole-step job v e flag good fit inv = step_cases (IsWhole job) job v e flag inv.credit (λ goes _. whole-effect job v e flag good fit inv goes) (λ _ _. whole-fault job v e inv)

-- Every step that does not wait lowers the work left; it begins within the bound; so every run is bounded.
use Rattle.std.proofs.Common.{◌≡◌, ◌≤◌, ℕ, zero, suc, ◌+◌, ◌-◌, ◌*◌, ◌&&◌, nat_lt, Bool, true, false, List, [], ◌∷◌, length, map, replicate, Option, Some, None, refl, inl, inr, arith}
use Rattle.std.specs.List.{list_all}
use Rattle.std.proofs.lemmas.Bool.{and_parts, ltb-true}
use Rattle.xv_base.specs.declared.unit.DiskShape.{DiskShape}
use Rattle.xv_base.specs.Units.{blocks_of}
use Rattle.xv_base.specs.declared.event.Event.TheVariants.{Guest, Begin, Read, Advance, Release, Round, Page, Send, Deliver, Apply, Ack, Credit, Stun, Switch, Cancel}
use Rattle.xv_base.specs.declared.event.Phase.TheVariants.{Cancelled, Failed}
use Rattle.xv_base.specs.declared.answer.Turn.TheVariants.{Done, Queued, Faulted, Wait as Waits, Failed as Broke}
use Rattle.xv_model.specs.Job.{Job, IsGoodJob, operation_count}
use Rattle.xv_model.specs.View.{View, UnitHead, is_live, first_view, members, no_disk}
use Rattle.xv_model.specs.Wait.{Event, Why, wait, fits, next_operation, next_aim}
use Rattle.xv_model.specs.Effect.{Turn, effect, fault_effect, given_up}
use Rattle.xv_model.specs.Step.{Entry, step, turn, view_by, turn_by, breaks, is_wait, is_flagged, same_turn, after, run, is_run, is_run_from}
use Rattle.xv_model.specs.Invariant.{IsViewOf}
use Rattle.xv_model.specs.Outstanding.{any, count_streams}
use Rattle.xv_model.specs.Work.{bound, work_left, operation_weight, dirty_weight, waiting_count, copies_left, operations_left}
use Rattle.xv_model.proofs.GoesOn.{begin_goes, read_goes, advance_goes, release_goes, round_goes, page_goes, send_goes, deliver_goes, apply_goes, ack_goes, credit_goes, stun_goes, switch_goes, cancel_goes, running_is_live, stunned_is_live, aim-store, aim-mirror, aim-join}
use Rattle.xv_model.proofs.First.{first_view-holds}
use Rattle.xv_model.proofs.Kept.{step-holds}
use Rattle.xv_model.proofs.Bound.Guests.{waiting-fits}
use Rattle.xv_model.proofs.Bound.Weights.{Weights, weights}
use Rattle.xv_model.proofs.Bound.Effects.{Lowers, WaitingFits, guest_lowers, fault_lowers, release_lowers, release_fault_lowers, begin_lowers, read_lowers, advance_lowers, round_lowers, page_lowers, send_lowers, deliver_lowers, apply_lowers, ack_lowers, credit_lowers, stun_lowers, switch_lowers, giving_up_lowers}

-- an event that goes on
flag_off : (flag : Bool) → (flag && true) ≡ false → flag ≡ false
flag_off true h = h
flag_off false h = refl

deliver_went : (job : Job) (v : View) (s : ℕ) (flag : Bool) → flag ≡ false → wait job v (Deliver s) flag ≡ None → IsViewOf job v → nat_lt s job.config.streams ≡ true → Lowers job v (effect job v (Deliver s))
deliver_went job v s true f w i l = absurd (cc)
deliver_went job v s false f w i l = deliver_lowers job v s i (ltb-true s _ l) (deliver_goes job v s false w)

credit_went : (job : Job) (v : View) (flag : Bool) → flag ≡ false → wait job v Credit flag ≡ None → Lowers job v (effect job v Credit)
credit_went job v true f w = absurd (cc)
credit_went job v false f w = credit_lowers job v (credit_goes job v false w)

went : (job : Job) (v : View) (e : Event) (flag : Bool) → IsGoodJob job → fits job e ≡ true → IsViewOf job v → wait job v e flag ≡ None → breaks job v e flag ≡ false → WaitingFits job (effect job v e) → Lowers job v (effect job v e)
went job v (Guest g) flag good f i w b room = guest_lowers job v g.0 (next_operation job v g.0) (next_aim job v g.0) good i (aim-store job v _) (aim-mirror job v _) (aim-join job v _) room
went job v (Begin d) flag good f i w b room = begin_lowers job v d good i (ltb-true d _ f) (begin_goes job v d flag w)
went job v (Read d) flag good f i w b room = read_lowers job v d i (ltb-true d _ f) (read_goes job v d flag w)
went job v (Advance d) flag good f i w b room = advance_lowers job v d i (ltb-true d _ f) (advance_goes job v d flag w)
went job v (Release d) flag good f i w b room = release_lowers job v d good i (ltb-true d _ f) (release_goes job v d flag w) room
went job v Round flag good f i w b room = round_lowers job v good (round_goes job v flag w)
went job v Page flag good f i w b room = page_lowers job v (page_goes job v flag w)
went job v (Send s) flag good f i w b room = send_lowers job v s good i (ltb-true s _ f) (send_goes job v s flag w)
went job v (Deliver s) flag good f i w b room = deliver_went job v s flag (flag_off flag b) w i f
went job v Apply flag good f i w b room = apply_lowers job v (apply_goes job v flag w)
went job v Ack flag good f i w b room = ack_lowers job v (ack_goes job v flag w)
went job v Credit flag good f i w b room = credit_went job v flag (flag_off flag b) w
went job v Stun flag good f i w b room = stun_lowers job v good (stun_goes job v flag w)
went job v Switch flag good f i w b room = switch_lowers job v (switch_goes job v flag w)
went job v Cancel flag good f i w b room = giving_up_lowers job v Cancelled (cancel_goes job v flag w).live refl

-- an event whose call fails
failed : (job : Job) (v : View) → is_live v.phase ≡ true → Lowers job v (given_up v Failed)
failed job v live = giving_up_lowers job v Failed live refl

broke : (job : Job) (v : View) (e : Event) (flag : Bool) → IsGoodJob job → fits job e ≡ true → IsViewOf job v → wait job v e flag ≡ None → WaitingFits job (fault_effect v e) → Lowers job v (fault_effect v e)
broke job v (Guest g) flag good f i w room = fault_lowers job v g.0 good room
broke job v (Release d) flag good f i w room = release_fault_lowers job v d good i (ltb-true d _ f) (release_goes job v d flag w) room
broke job v (Begin d) flag good f i w room = failed job v (running_is_live v.phase (begin_goes job v d flag w).running)
broke job v (Read d) flag good f i w room = failed job v (running_is_live v.phase (read_goes job v d flag w).running)
broke job v (Advance d) flag good f i w room = failed job v (running_is_live v.phase (advance_goes job v d flag w).running)
broke job v Round flag good f i w room = failed job v (running_is_live v.phase (round_goes job v flag w).running)
broke job v Page flag good f i w room = failed job v (page_goes job v flag w).live
broke job v (Send s) flag good f i w room = failed job v (send_goes job v s flag w).live
broke job v (Deliver s) flag good f i w room = failed job v (deliver_goes job v s flag w).live
broke job v Apply flag good f i w room = failed job v (apply_goes job v flag w).live
broke job v Ack flag good f i w room = failed job v (ack_goes job v flag w).live
broke job v Credit flag good f i w room = failed job v (credit_goes job v flag w).live
broke job v Stun flag good f i w room = failed job v (running_is_live v.phase (stun_goes job v flag w).running)
broke job v Switch flag good f i w room = failed job v (stunned_is_live v.phase (switch_goes job v flag w).stunned)
broke job v Cancel flag good f i w room = failed job v (cancel_goes job v flag w).live

-- a step that does not wait does the one or the other
lowers-by : (why : Option Why) (b : Bool) (job : Job) (v : View) (e : Event) → is_wait (turn_by why b job v e) ≡ false → WaitingFits job (view_by why b job v e) →
    (why ≡ None → b ≡ false → WaitingFits job (effect job v e) → Lowers job v (effect job v e)) →
    (why ≡ None → b ≡ true → WaitingFits job (fault_effect v e) → Lowers job v (fault_effect v e)) → Lowers job v (view_by why b job v e)
lowers-by (Some why) b job v e h room goes fails = absurd (cc)
lowers-by None false job v e h room goes fails = goes refl refl room
lowers-by None true job v e h room goes fails = fails refl refl room

pub step-lowers : (job : Job) (v : View) (e : Event) (flag : Bool) → IsGoodJob job → fits job e ≡ true → IsViewOf job v → is_wait (turn job v e flag) ≡ false → work_left job (step job v e flag) + 1 ≤ work_left job v
step-lowers job v e flag good f i h =
    lowers-by (wait job v e flag) (breaks job v e flag) job v e h (waiting-fits job (step job v e flag) (step-holds job v e flag good f i))
    (λ w b room. went job v e flag good f i w b room) (λ w b room. broke job v e flag good f i w room)

-- the work that there is at first
first-copies : (shapes : List DiskShape) → copies_left (map (λ s. s.blocks) shapes) (map (λ (_ : DiskShape). no_disk) shapes) ≡ 8 * blocks_of shapes
first-copies [] = refl
first-copies (s ∷ shapes) = omega (arith, first-copies shapes)

members-all : (n : ℕ) → members (replicate n true) ≡ n
members-all zero = refl
members-all (suc n) = omega (arith, members-all n)

members-none : (n : ℕ) → members (replicate n false) ≡ 0
members-none zero = refl
members-none (suc n) = members-none n

no_streams : (n : ℕ) → count_streams any (replicate {A = List (List UnitHead)} n []) ≡ 0
no_streams zero = refl
no_streams (suc n) = omega (arith, no_streams n)

operations_at_most : (w d n q : ℕ) → Weights w d → w * (n - 0) - q ≤ 8 * n
operations_at_most w d n q k = elim k.known [
  | inl f ↦ rw f.0 (omega arith)
  | inr f ↦ rw f.0 (omega arith)
]

dirty_at_most : (w d n k : ℕ) → Weights w d → k ≡ n → d * k ≤ 8 * n
dirty_at_most w d n k known e = elim known.known [
  | inl f ↦ rw f.1 (omega arith)
  | inr f ↦ rw f.1 (omega arith)
]

pub first-within : (job : Job) → IsGoodJob job → work_left job (first_view job) ≤ bound job
first-within job good =
    let w = weights job good in
    let pages = job.copy.pages in
    let operations : operations_left job (first_view job) ≤ 8 * operation_count job = operations_at_most (operation_weight job.format) (dirty_weight job.format) (operation_count job) (waiting_count (first_view job).disks) w in
    let dirty = dirty_at_most (operation_weight job.format) (dirty_weight job.format) pages (members (replicate pages true)) w (members-all pages) in
    omega (arith, operations, dirty, first-copies job.copy.disks, members-none pages, no_streams job.config.streams, good.rounds.1)

-- an entry that agrees with an answer has none that waits
pub agrees-goes : (s t : Turn) → same_turn s t ≡ true → is_wait t ≡ false
agrees-goes s (Done n) h = refl
agrees-goes s Queued h = refl
agrees-goes s Faulted h = refl
agrees-goes s (Broke c) h = refl
agrees-goes (Done n) (Waits why) h = absurd (cc)
agrees-goes Queued (Waits why) h = absurd (cc)
agrees-goes Faulted (Waits why) h = absurd (cc)
agrees-goes (Broke c) (Waits why) h = absurd (cc)
agrees-goes (Waits other) (Waits why) h = absurd (cc)

-- a journal is no longer than the work that it did
pub journal-within : (job : Job) (v : View) (journal : List Entry) → IsGoodJob job → list_all (λ (e : Entry). fits job e.event) journal ≡ true → IsViewOf job v → is_run_from job v journal ≡ true → length journal + work_left job (after job v journal) ≤ work_left job v
journal-within job v [] good f i r = omega arith
journal-within job v (e ∷ es) good f i r =
    let flag = is_flagged e.turn in
    let next = step job v e.event flag in
    let fit = and_parts (fits job e.event) (list_all (λ (x : Entry). fits job x.event) es) f in
    let runs = and_parts (same_turn e.turn (turn job v e.event flag)) (is_run_from job next es) r in
    let less = step-lowers job v e.event flag good fit.0 i (agrees-goes e.turn (turn job v e.event flag) runs.0) in
    let rest = journal-within job next es good fit.1 (step-holds job v e.event flag good fit.0 i) runs.1 in
    omega (arith, less, rest)

pub run-within : (job : Job) (journal : List Entry) → IsGoodJob job → list_all (λ (e : Entry). fits job e.event) journal ≡ true → is_run job journal ≡ true → length journal + work_left job (run job journal) ≤ bound job
run-within job journal good f r = omega (arith, journal-within job (first_view job) journal good f (first_view-holds job good) r, first-within job good)

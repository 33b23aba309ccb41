-- The story that a view has follows what each event does, by the machine's own answer.
use Rattle.std.specs.Prelude.{◌≡◌, ◌<◌, ℕ, ◌+◌, Bool, true, false, List, [], ◌∷◌, ◌++◌, length, map, drop, set, get_or, Option, Some, None}
use Rattle.std.proofs.Common.{arith, refl, ap, sym, ◌∙◌}
use Rattle.std.proofs.lemmas.Bool.{lt-ltb}
use Rattle.std.proofs.lemmas.List.{map-set}
use Rattle.xv_model.specs.Job.{Job, GuestId, disk_of}
use Rattle.xv_model.specs.View.{View, disk, front, ready_message, is_live}
use Rattle.xv_model.specs.Wait.{Event, Why, Aim, Alone, Store, Join, Mirror, wait, next_operation, next_aim}
use Rattle.xv_model.specs.Effect.{Outcome, effect, fault_effect, answer, fault_answer, guest_by, guest_answer, region_length, without_region, front_gone}
use Rattle.xv_model.specs.Step.{turn_by, view_by, is_wait}
use Rattle.xv_model.specs.Story.{Story, told, front_ends}
use Rattle.xv_base.specs.declared.event.Event.TheVariants.{Guest, Begin, Read, Advance, Release, Round, Page, Send, Deliver, Apply, Ack, Credit, Stun, Switch, Cancel}
use Rattle.xv_base.specs.declared.operation.Outcome.TheVariants.{Done, Faulted}
use Rattle.xv_model.proofs.Bags.{ready-next}
use Rattle.xv_model.proofs.GoesOn.{begin_goes, read_goes, advance_goes, round_goes, page_goes, send_goes, deliver_goes, apply_goes, ack_goes, credit_goes, stun_goes, switch_goes, cancel_goes, running_is_live, stunned_is_live, live_not_switched}
use Rattle.xv_model.proofs.Story.Views.{queued, guest_of, has_some, story_in, queues-same, queues-given_up, queues-joined, queues-released, front-queued}

-- stories that differ from a view's in one part
abbrev with_queues : View → List (List ℕ) → Story
with_queues v queues = record (story_in v) { queues = queues }

abbrev with_written : View → List Bool → Story
with_written v written = record (story_in v) { written = written }

abbrev with_end : View → Option ℕ → List (List ℕ) → Bool → Story
with_end v stun queues switched = record (story_in v) { stun = stun; queues = queues; switched = switched }

abbrev with_front : View → Outcome → ℕ → List (List ℕ) → Story
with_front v outcome guest queues =
    record (story_in v) { history = v.history ++ record { guest = record { 0 = guest }; outcome = outcome } ∷ []; queues = queues }

-- a guest's operation, by its aim, and the operation at the front of a queue
guest-told : (job : Job) (v : View) (g : GuestId) (a : Aim) → told job (story_in v) (Guest g) (guest_answer (next_operation job v g.0) a) ≡ story_in (guest_by job v g.0 (next_operation job v g.0) a)
guest-told job v g Alone = refl
guest-told job v g Store = refl
guest-told job v g Mirror = refl
guest-told job v g Join =
    let unit = (next_operation job v g.0).unit.0 in
    ap (with_queues v) (queues-joined v.disks (disk_of job.copy unit) g.0 unit)

front-told : (v : View) (d : ℕ) (outcome : Outcome) → front_ends (story_in v) d outcome ≡ with_front v outcome (guest_of (front (disk v d))) (map queued (set v.disks d (front_gone (disk v d))))
front-told v d outcome =
    ap (λ (g : ℕ). with_front v outcome g (set (map queued v.disks) d (drop 1 (get_or (map queued v.disks) d [])))) (front-queued v d)
    ∙ ap (with_front v outcome (guest_of (front (disk v d)))) (queues-released v.disks d)

-- the message that is applied has a version
applied-told : (v : View) → 0 < (ready_message v.hold).version → set (map has_some v.hold.applied) (ready_message v.hold).unit.0 true ≡ map has_some (set v.hold.applied (ready_message v.hold).unit.0 (ready_message v.hold).version)
applied-told v some =
    let m = ready_message v.hold in
    ap (set (map has_some v.hold.applied) m.unit.0) (sym (lt-ltb 0 m.version some)) ∙ sym (map-set has_some v.hold.applied m.unit.0 m.version)

-- while messages may move the guest is not on the destination, and a migration that ends then gives up its regions alone
given_up-told : (v : View) → is_live v.phase ≡ true → story_in v ≡ with_end v v.stun (map queued (map without_region v.disks)) false
given_up-told v live =
    ap (with_end v v.stun (map queued v.disks)) (live_not_switched v.phase live)
    ∙ ap (λ (qs : List (List ℕ)). with_end v v.stun qs false) (sym (queues-given_up v.disks))

pub went-told : (job : Job) (v : View) (e : Event) (flag : Bool) → wait job v e flag ≡ None → told job (story_in v) e (answer job v e) ≡ story_in (effect job v e)
went-told job v (Guest g) flag goes = guest-told job v g (next_aim job v g.0)
went-told job v (Begin d) flag goes = ap (with_queues v) (sym (queues-same v.disks d (record (disk v d) { region = region_length job v d; got = 0 }) refl))
went-told job v (Read d) flag goes = ap (with_queues v) (sym (queues-same v.disks d (record (disk v d) { got = (disk v d).got + 1 }) refl))
went-told job v (Advance d) flag goes = ap (with_queues v) (sym (queues-same v.disks d (record (disk v d) { cursor = (disk v d).cursor + (disk v d).region; region = 0; got = 0 }) refl))
went-told job v (Release d) flag goes = front-told v d Done
went-told job v Apply flag goes =
    let next = ready-next v.hold (apply_goes job v flag goes).ready in
    ap (with_written v) (applied-told v (omega arith))
went-told job v Stun flag goes = ap (with_end v (Some (length v.history)) (map queued v.disks)) (live_not_switched v.phase (running_is_live v.phase (stun_goes job v flag goes).running))
went-told job v Cancel flag goes = given_up-told v (cancel_goes job v flag goes).live
went-told job v e flag goes = refl

pub failed-told : (job : Job) (v : View) (e : Event) (flag : Bool) → wait job v e flag ≡ None → told job (story_in v) e (fault_answer e) ≡ story_in (fault_effect v e)
failed-told job v (Guest g) flag goes = refl
failed-told job v (Release d) flag goes = front-told v d Faulted
failed-told job v (Begin d) flag goes = given_up-told v (running_is_live v.phase (begin_goes job v d flag goes).running)
failed-told job v (Read d) flag goes = given_up-told v (running_is_live v.phase (read_goes job v d flag goes).running)
failed-told job v (Advance d) flag goes = given_up-told v (running_is_live v.phase (advance_goes job v d flag goes).running)
failed-told job v Round flag goes = given_up-told v (running_is_live v.phase (round_goes job v flag goes).running)
failed-told job v Page flag goes = given_up-told v (page_goes job v flag goes).live
failed-told job v (Send s) flag goes = given_up-told v (send_goes job v s flag goes).live
failed-told job v (Deliver s) flag goes = given_up-told v (deliver_goes job v s flag goes).live
failed-told job v Apply flag goes = given_up-told v (apply_goes job v flag goes).live
failed-told job v Ack flag goes = given_up-told v (ack_goes job v flag goes).live
failed-told job v Credit flag goes = given_up-told v (credit_goes job v flag goes).live
failed-told job v Stun flag goes = given_up-told v (running_is_live v.phase (stun_goes job v flag goes).running)
failed-told job v Switch flag goes = given_up-told v (stunned_is_live v.phase (switch_goes job v flag goes).stunned)
failed-told job v Cancel flag goes = given_up-told v (cancel_goes job v flag goes).live

-- every answer that is no wait
pub turn-told : (job : Job) (v : View) (e : Event) (flag : Bool) (why : Option Why) (broken : Bool) → wait job v e flag ≡ why → is_wait (turn_by why broken job v e) ≡ false → told job (story_in v) e (turn_by why broken job v e) ≡ story_in (view_by why broken job v e)
turn-told job v e flag (Some why) broken goes on = absurd (cc)
turn-told job v e flag None false goes on = went-told job v e flag goes
turn-told job v e flag None true goes on = failed-told job v e flag goes

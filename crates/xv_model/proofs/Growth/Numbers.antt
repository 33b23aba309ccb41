-- By how much the numbers of progress grow in one step.
use Rattle.std.proofs.Common.{◌≡◌, ℕ, ◌+◌, ◌<◌, ◌≤◌, ◌^◌, Bool, true, length, map, set, sum, None, refl, arith}
use Rattle.std.proofs.lemmas.Bool.{ltb-true}
use Rattle.std.proofs.lemmas.List.{length_push}
use Rattle.std.proofs.lemmas.List.Sums.{sum_by-set}
use Rattle.xv_base.specs.declared.event.Event.TheVariants.{Guest, Begin, Read, Advance, Release, Round, Page, Send, Deliver, Apply, Ack, Credit, Stun, Switch, Cancel}
use Rattle.xv_base.specs.declared.operation.Outcome.TheVariants.{Done, Faulted}
use Rattle.xv_base.specs.declared.answer.Turn.TheVariants.{Wait as Waits}
use Rattle.xv_base.proofs.Within.{good_within}
use Rattle.xv_model.specs.Job.{Job, IsGoodJob, UnitOp, disk_of, operation_count}
use Rattle.xv_model.specs.View.{View, Disk, no_disk, disk, front, number, ready_message}
use Rattle.xv_model.specs.Wait.{Event, Why, Aim, Alone, Store, Join, Mirror, wait, fits, next_operation, next_aim}
use Rattle.xv_model.specs.Effect.{effect, fault_effect, answer, fault_answer, guest_by, guest_answer, joined, front_gone, region_length, without_region}
use Rattle.xv_model.specs.Step.{step, turn}
use Rattle.xv_model.specs.Invariant.{IsViewOf}
use Rattle.xv_model.specs.Growth.{copied, block_count, applied, ends, blocks_copied, applies}
use Rattle.xv_model.proofs.GoesOn.{apply_goes}
use Rattle.xv_model.proofs.Bags.{ready-next}
use Rattle.xv_model.proofs.Outside.Calls.{ready_unit}
use Rattle.xv_model.proofs.Bound.Guests.{waiting-fits}
use Rattle.xv_model.proofs.Journal.Ways.{step_ways}
use Rattle.xv_model.proofs.Growth.Lists.{cursors, cursors-set_same, cursors-without, cursors-within}

none_more : (n : ℕ) → n ≡ n + 0
none_more n = omega arith

-- the history
guest_history : (job : Job) (v : View) (g : ℕ) (op : UnitOp) (a : Aim) → length (guest_by job v g op a).history ≡ length v.history + ends (Guest (record { 0 = g })) (guest_answer op a)
guest_history job v g op Alone = length_push v.history (record { guest = record { 0 = g }; outcome = Done })
guest_history job v g op Store = length_push v.history (record { guest = record { 0 = g }; outcome = Done })
guest_history job v g op Join = none_more (length v.history)
guest_history job v g op Mirror = length_push v.history (record { guest = record { 0 = g }; outcome = Done })

history_goes : (job : Job) (v : View) (e : Event) → length (effect job v e).history ≡ length v.history + ends e (answer job v e)
history_goes job v (Guest g) = guest_history job v g.0 (next_operation job v g.0) (next_aim job v g.0)
history_goes job v (Begin d) = none_more (length v.history)
history_goes job v (Read d) = none_more (length v.history)
history_goes job v (Advance d) = none_more (length v.history)
history_goes job v (Release d) = length_push v.history (record { guest = (front (disk v d)).guest; outcome = Done })
history_goes job v Round = none_more (length v.history)
history_goes job v Page = none_more (length v.history)
history_goes job v (Send s) = none_more (length v.history)
history_goes job v (Deliver s) = none_more (length v.history)
history_goes job v Apply = none_more (length v.history)
history_goes job v Ack = none_more (length v.history)
history_goes job v Credit = none_more (length v.history)
history_goes job v Stun = none_more (length v.history)
history_goes job v Switch = none_more (length v.history)
history_goes job v Cancel = none_more (length v.history)

history_fails : (v : View) (e : Event) → length (fault_effect v e).history ≡ length v.history + ends e (fault_answer e)
history_fails v (Guest g) = length_push v.history (record { guest = record { 0 = g.0 }; outcome = Faulted })
history_fails v (Begin d) = none_more (length v.history)
history_fails v (Read d) = none_more (length v.history)
history_fails v (Advance d) = none_more (length v.history)
history_fails v (Release d) = length_push v.history (record { guest = record { 0 = (front (disk v d)).guest.0 }; outcome = Faulted })
history_fails v Round = none_more (length v.history)
history_fails v Page = none_more (length v.history)
history_fails v (Send s) = none_more (length v.history)
history_fails v (Deliver s) = none_more (length v.history)
history_fails v Apply = none_more (length v.history)
history_fails v Ack = none_more (length v.history)
history_fails v Credit = none_more (length v.history)
history_fails v Stun = none_more (length v.history)
history_fails v Switch = none_more (length v.history)
history_fails v Cancel = none_more (length v.history)

history_waits : (v : View) (e : Event) (why : Why) → length v.history ≡ length v.history + ends e (Waits why)
history_waits v (Guest g) why = none_more (length v.history)
history_waits v (Release d) why = none_more (length v.history)
history_waits v e why = none_more (length v.history)

pub history-grows : (job : Job) (v : View) (e : Event) (flag : Bool) → length (step job v e flag).history ≡ length v.history + ends e (turn job v e flag)
history-grows job v e flag = step_ways (λ w t. length w.history ≡ length v.history + ends e t) job v e flag (history_waits v e) (λ w b. history_goes job v e) (λ w b. history_fails v e)

-- the blocks behind the cursors
guest_copied : (job : Job) (v : View) (g : ℕ) (op : UnitOp) (a : Aim) → copied (guest_by job v g op a) ≡ copied v + 0
guest_copied job v g op Alone = none_more (copied v)
guest_copied job v g op Store = none_more (copied v)
guest_copied job v g op Join =
    let d = disk_of job.copy op.unit.0 in
    omega (arith, cursors-set_same v.disks d (joined (disk v d) g op.unit.0) refl)
guest_copied job v g op Mirror = none_more (copied v)

same_cursor : (v : View) (d : ℕ) (new : Disk) → new.cursor ≡ (disk v d).cursor → cursors (set v.disks d new) ≡ copied v + 0
same_cursor v d new e = omega (arith, cursors-set_same v.disks d new e)

advanced_copied : (job : Job) (v : View) (d : ℕ) → d < length v.disks → copied (effect job v (Advance d)) ≡ copied v + (disk v d).region
advanced_copied job v d l =
    let new : Disk = record (disk v d) { cursor = (disk v d).cursor + (disk v d).region; region = 0; got = 0 } in
    let s : cursors (set v.disks d new) + (disk v d).cursor ≡ cursors v.disks + ((disk v d).cursor + (disk v d).region) = sum_by-set (λ (x : Disk). x.cursor) v.disks d new no_disk l in
    omega arith

gives_up : (v : View) → cursors (map without_region v.disks) ≡ copied v + 0
gives_up v = omega (arith, cursors-without v.disks)

copied_goes : (job : Job) (v : View) (e : Event) → fits job e ≡ true → IsViewOf job v → copied (effect job v e) ≡ copied v + blocks_copied e (answer job v e)
copied_goes job v (Guest g) f i = guest_copied job v g.0 (next_operation job v g.0) (next_aim job v g.0)
copied_goes job v (Begin d) f i = same_cursor v d (record (disk v d) { region = region_length job v d; got = 0 }) refl
copied_goes job v (Read d) f i = same_cursor v d (record (disk v d) { got = (disk v d).got + 1 }) refl
copied_goes job v (Advance d) f i = advanced_copied job v d (omega (arith, ltb-true d _ f, i.lists.disks))
copied_goes job v (Release d) f i = same_cursor v d (front_gone (disk v d)) refl
copied_goes job v Round f i = none_more (copied v)
copied_goes job v Page f i = none_more (copied v)
copied_goes job v (Send s) f i = none_more (copied v)
copied_goes job v (Deliver s) f i = none_more (copied v)
copied_goes job v Apply f i = none_more (copied v)
copied_goes job v Ack f i = none_more (copied v)
copied_goes job v Credit f i = none_more (copied v)
copied_goes job v Stun f i = none_more (copied v)
copied_goes job v Switch f i = none_more (copied v)
copied_goes job v Cancel f i = gives_up v

copied_fails : (v : View) (e : Event) → copied (fault_effect v e) ≡ copied v + blocks_copied e (fault_answer e)
copied_fails v (Guest g) = none_more (copied v)
copied_fails v (Begin d) = gives_up v
copied_fails v (Read d) = gives_up v
copied_fails v (Advance d) = gives_up v
copied_fails v (Release d) = same_cursor v d (front_gone (disk v d)) refl
copied_fails v Round = gives_up v
copied_fails v Page = gives_up v
copied_fails v (Send s) = gives_up v
copied_fails v (Deliver s) = gives_up v
copied_fails v Apply = gives_up v
copied_fails v Ack = gives_up v
copied_fails v Credit = gives_up v
copied_fails v Stun = gives_up v
copied_fails v Switch = gives_up v
copied_fails v Cancel = gives_up v

copied_waits : (v : View) (e : Event) (why : Why) → copied v ≡ copied v + blocks_copied e (Waits why)
copied_waits v (Advance d) why = none_more (copied v)
copied_waits v e why = none_more (copied v)

pub copied-grows : (job : Job) (v : View) (e : Event) (flag : Bool) → fits job e ≡ true → IsViewOf job v → copied (step job v e flag) ≡ copied v + blocks_copied e (turn job v e flag)
copied-grows job v e flag f i = step_ways (λ w t. copied w ≡ copied v + blocks_copied e t) job v e flag (copied_waits v e) (λ w b. copied_goes job v e f i) (λ w b. copied_fails v e)

-- the messages written at the destination
applied_one : (job : Job) (v : View) (flag : Bool) → IsViewOf job v → wait job v Apply flag ≡ None → applied (effect job v Apply) ≡ applied v + 1
applied_one job v flag i w =
    let m = ready_message v.hold in
    let there : m.unit.0 < length v.hold.applied = omega (arith, ready_unit job v flag i w, i.lists.applied) in
    let s : sum (set v.hold.applied m.unit.0 m.version) + number v.hold.applied m.unit.0 ≡ sum v.hold.applied + m.version = sum_by-set (λ (x : ℕ). x) v.hold.applied m.unit.0 m.version 0 there in
    omega (arith, s, ready-next v.hold (apply_goes job v flag w).ready)

applied_goes : (job : Job) (v : View) (e : Event) (flag : Bool) → IsViewOf job v → wait job v e flag ≡ None → applied (effect job v e) ≡ applied v + applies e (answer job v e)
applied_goes job v (Guest g) flag i w = none_more (applied v)
applied_goes job v (Begin d) flag i w = none_more (applied v)
applied_goes job v (Read d) flag i w = none_more (applied v)
applied_goes job v (Advance d) flag i w = none_more (applied v)
applied_goes job v (Release d) flag i w = none_more (applied v)
applied_goes job v Round flag i w = none_more (applied v)
applied_goes job v Page flag i w = none_more (applied v)
applied_goes job v (Send s) flag i w = none_more (applied v)
applied_goes job v (Deliver s) flag i w = none_more (applied v)
applied_goes job v Apply flag i w = applied_one job v flag i w
applied_goes job v Ack flag i w = none_more (applied v)
applied_goes job v Credit flag i w = none_more (applied v)
applied_goes job v Stun flag i w = none_more (applied v)
applied_goes job v Switch flag i w = none_more (applied v)
applied_goes job v Cancel flag i w = none_more (applied v)

applied_fails : (v : View) (e : Event) → applied (fault_effect v e) ≡ applied v + applies e (fault_answer e)
applied_fails v (Guest g) = none_more (applied v)
applied_fails v (Begin d) = none_more (applied v)
applied_fails v (Read d) = none_more (applied v)
applied_fails v (Advance d) = none_more (applied v)
applied_fails v (Release d) = none_more (applied v)
applied_fails v Round = none_more (applied v)
applied_fails v Page = none_more (applied v)
applied_fails v (Send s) = none_more (applied v)
applied_fails v (Deliver s) = none_more (applied v)
applied_fails v Apply = none_more (applied v)
applied_fails v Ack = none_more (applied v)
applied_fails v Credit = none_more (applied v)
applied_fails v Stun = none_more (applied v)
applied_fails v Switch = none_more (applied v)
applied_fails v Cancel = none_more (applied v)

applied_waits : (v : View) (e : Event) (why : Why) → applied v ≡ applied v + applies e (Waits why)
applied_waits v Apply why = none_more (applied v)
applied_waits v e why = none_more (applied v)

pub applied-grows : (job : Job) (v : View) (e : Event) (flag : Bool) → IsViewOf job v → applied (step job v e flag) ≡ applied v + applies e (turn job v e flag)
applied-grows job v e flag i = step_ways (λ w t. applied w ≡ applied v + applies e t) job v e flag (applied_waits v e) (λ w b. applied_goes job v e flag i w) (λ w b. applied_fails v e)

-- how great they are
pub copied-within : (job : Job) (v : View) → IsViewOf job v → copied v ≤ block_count job
copied-within job v i = cursors-within job.copy.disks v.disks i.lists.disks (λ d l. omega (arith, i.regions.cursor_fits d l))

pub copied-small : (job : Job) (v : View) → IsGoodJob job → IsViewOf job v → copied v < 2 ^ 32
copied-small job v good i =
    let few = (good_within job.shape good.machine).few_units in
    omega (arith, copied-within job v i, few, good.same_units)

pub history-within : (job : Job) (v : View) → IsViewOf job v → length v.history ≤ operation_count job
history-within job v i = omega (arith, waiting-fits job v i)

pub history-small : (job : Job) (v : View) → IsGoodJob job → IsViewOf job v → length v.history < 2 ^ 32
history-small job v good i = omega (arith, history-within job v i, good.operations)

-- The times of messages rise with their versions, over each event.
use Rattle.std.specs.Prelude.{◌≡◌, ◌≤◌, ◌<◌, ℕ, zero, suc, ◌+◌, Bool, true, false, length, None, if◌then◌else◌}
use Rattle.std.proofs.Common.{arith, refl, sym, subst}
use Rattle.std.proofs.lemmas.Bool.{ltb-true}
use Rattle.xv_model.specs.Job.{Job, UnitOp, IsGoodJob, unit_count}
use Rattle.xv_model.specs.View.{View, Outbox, disk, front, least, is_running, is_live, is_ready, ready_message}
use Rattle.xv_model.specs.Wait.{Event, Aim, Alone, Store, Join, Mirror, wait, fits, next_operation, next_aim}
use Rattle.xv_model.specs.Effect.{effect, fault_effect, made, made_run, guest_by, advanced, released, page_sent_off, sent, delivered, applied_next, cursor_unit}
use Rattle.xv_model.specs.Step.{step}
use Rattle.xv_model.specs.Outstanding.{Bag, on_the_way, outstanding, is_version, is_message}
use Rattle.xv_model.specs.Invariant.{EachVersionOnce, TimesRise, IsViewOf}
use Rattle.xv_base.specs.declared.event.Event.TheVariants.{Guest, Begin, Read, Advance, Release, Round, Page, Send, Deliver, Apply, Ack, Credit, Stun, Switch, Cancel}
use Rattle.xv_model.proofs.Bags.{new_message, count-le, on_the_way-le, is_message-version, outstanding-applied, ready-next, ready-outstanding, ready-itself, message-has-version, outstanding-sent-bag, outstanding-delivered-bag, version-unit}
use Rattle.xv_model.proofs.GoesOn.{advance_goes, page_goes, apply_goes, aim-mirror, running_is_live}
use Rattle.xv_model.proofs.Steps.{step_cases}
use Rattle.xv_model.proofs.Facts.{region_units}
use Rattle.xv_model.proofs.Points.Versions.{box_bag, box_bag-made, versions-made_run}
use Rattle.xv_model.proofs.Points.Times.{Versioned, times-made, times-later, times-applied}

-- the point of a view
abbrev pub Times : View → Type 0
Times v = TimesRise (outstanding v) v.hold.applied v.hold.recorded v.mark

versioned : (box : Outbox) (v : View) → Versioned (box_bag box (on_the_way v))
versioned box v unit version at h =
    let a = on_the_way-le v (is_message unit version at) (is_version unit version) (is_message-version unit version at) in
    let b = count-le (is_message unit version at) (is_version unit version) box.messages (is_message-version unit version at) in
    omega arith

-- the mark after an operation has ended
later_mark : (v : View) (job : Job) (b : Bool) → IsViewOf job v → v.mark ≤ (if b then length v.history + 1 else v.mark)
later_mark v job true inv = let a = inv.history.mark_within in omega arith
later_mark v job false inv = omega arith

reached_mark : (v : View) (b : Bool) → b ≡ true → length v.history + 1 ≤ (if b then length v.history + 1 else v.mark)
reached_mark v b e = rw e (omega arith)

times-made_view : (job : Job) (v : View) (unit at later : ℕ) → IsViewOf job v → v.mark ≤ at → at ≤ later → TimesRise (box_bag (made v.outbox unit at) (on_the_way v)) v.hold.applied v.hold.recorded later
times-made_view job v unit at later inv from to =
    times-made (outstanding v) (box_bag (made v.outbox unit at) (on_the_way v)) v.outbox.issued v.hold.applied v.hold.recorded v.mark later (new_message v.outbox unit at) refl
    (box_bag-made v.outbox (on_the_way v) unit at) (versioned v.outbox v) from to inv.versions inv.times

times-ended : (job : Job) (v : View) (b : Bool) → IsViewOf job v → TimesRise (outstanding v) v.hold.applied v.hold.recorded (if b then length v.history + 1 else v.mark)
times-ended job v b inv = times-later (outstanding v) v.hold.applied v.hold.recorded v.mark (if b then length v.history + 1 else v.mark) (later_mark v job b inv) inv.times

pub times-guest_by : (job : Job) (v : View) (g : ℕ) (op : UnitOp) (a : Aim) → IsViewOf job v → (a ≡ Mirror → is_running v.phase ≡ true) → Times (guest_by job v g op a)
times-guest_by job v g op Alone inv runs = times-ended job v (is_live v.phase) inv
times-guest_by job v g op Store inv runs = times-ended job v (is_live v.phase) inv
times-guest_by job v g op Join inv runs = inv.times
times-guest_by job v g op Mirror inv runs =
    times-made_view job v op.unit.0 (length v.history + 1) (if is_live v.phase then length v.history + 1 else v.mark) inv
    (let a = inv.history.mark_within in omega arith) (reached_mark v (is_live v.phase) (running_is_live v.phase (runs refl)))

times-made_run : (box : Outbox) (v : View) (unit at n : ℕ) → unit + n ≤ length box.issued → EachVersionOnce (box_bag box (on_the_way v)) box.issued v.hold.applied → v.mark ≤ at → at ≤ v.mark → TimesRise (box_bag box (on_the_way v)) v.hold.applied v.hold.recorded v.mark →
    TimesRise (box_bag (made_run box unit at n) (on_the_way v)) v.hold.applied v.hold.recorded v.mark
times-made_run box v unit at zero there p from to t = t
times-made_run box v unit at (suc n) there p from to t =
    let run = made_run box unit at n in
    times-made (box_bag run (on_the_way v)) (box_bag (made run (unit + n) at) (on_the_way v)) run.issued v.hold.applied v.hold.recorded v.mark v.mark (new_message run (unit + n) at) refl
    (box_bag-made run (on_the_way v) (unit + n) at) (versioned run v) from to
    (versions-made_run box (on_the_way v) v.hold.applied unit at n (omega arith) p)
    (times-made_run box v unit at n (omega arith) p from to t)

pub times-advanced : (job : Job) (v : View) (d : ℕ) → IsViewOf job v → is_running v.phase ≡ true → cursor_unit job v d + (disk v d).region ≤ unit_count job → Times (advanced job v d)
times-advanced job v d inv runs there =
    let a = inv.history.marked (running_is_live v.phase runs) in
    times-made_run v.outbox v (cursor_unit job v d) (length v.history) (disk v d).region (omega (arith, inv.lists.issued)) inv.versions (omega arith) (omega arith) inv.times

times-released_by : (job : Job) (v : View) (runs : Bool) (unit : ℕ) → IsViewOf job v → (runs ≡ true → is_live v.phase ≡ true) →
    TimesRise (box_bag (if runs then made v.outbox unit (length v.history + 1) else v.outbox) (on_the_way v)) v.hold.applied v.hold.recorded (if is_live v.phase then length v.history + 1 else v.mark)
times-released_by job v true unit inv live =
    times-made_view job v unit (length v.history + 1) (if is_live v.phase then length v.history + 1 else v.mark) inv
    (let a = inv.history.mark_within in omega arith) (reached_mark v (is_live v.phase) (live refl))
times-released_by job v false unit inv live = times-ended job v (is_live v.phase) inv

pub times-released : (job : Job) (v : View) (d : ℕ) → IsViewOf job v → Times (released v d)
times-released job v d inv = times-released_by job v (is_running v.phase) (front (disk v d)).unit.0 inv (running_is_live v.phase)

pub times-page : (job : Job) (v : View) → IsViewOf job v → is_live v.phase ≡ true → Times (page_sent_off v)
times-page job v inv live =
    let a = inv.history.marked live in
    times-made_view job v (least v.to_send) (length v.history) v.mark inv (omega arith) (omega arith)

pub times-sent : (job : Job) (v : View) (s : ℕ) → IsViewOf job v → s < length v.streams → Times (sent job v s)
times-sent job v s inv there = subst (λ (b : Bag). TimesRise b v.hold.applied v.hold.recorded v.mark) (sym (outstanding-sent-bag job v s there)) inv.times

pub times-delivered : (job : Job) (v : View) (s : ℕ) → IsViewOf job v → s < length v.streams → Times (delivered v s)
times-delivered job v s inv there = subst (λ (b : Bag). TimesRise b v.hold.applied v.hold.recorded v.mark) (sym (outstanding-delivered-bag v s there)) inv.times

pub times-applied_next : (job : Job) (v : View) → IsViewOf job v → is_ready v.hold ≡ true → Times (applied_next v)
times-applied_next job v inv e =
    let m = ready_message v.hold in
    let there = version-unit (outstanding v) v.outbox.issued v.hold.applied m.unit.0 m.version inv.versions (ready-outstanding v e) in
    times-applied (outstanding v) (outstanding (applied_next v)) v.outbox.issued v.hold.applied v.hold.recorded v.mark m
    (omega (arith, inv.lists.issued, inv.lists.applied)) (omega (arith, inv.lists.issued, inv.lists.recorded))
    (ready-next v.hold e) (ready-itself v e) (outstanding-applied v e) (message-has-version v) inv.versions inv.times

times-effect : (job : Job) (v : View) (e : Event) (flag : Bool) → IsGoodJob job → fits job e ≡ true → IsViewOf job v → wait job v e flag ≡ None → Times (effect job v e)
times-effect job v (Guest g) flag good fit inv goes = times-guest_by job v g.0 (next_operation job v g.0) (next_aim job v g.0) inv (λ m. (aim-mirror job v (next_operation job v g.0) m).running)
times-effect job v (Begin d) flag good fit inv goes = inv.times
times-effect job v (Read d) flag good fit inv goes = inv.times
times-effect job v (Advance d) flag good fit inv goes = let a = advance_goes job v d flag goes in times-advanced job v d inv a.running (region_units job v d (ltb-true _ _ fit) inv a)
times-effect job v (Release d) flag good fit inv goes = times-released job v d inv
times-effect job v Round flag good fit inv goes = inv.times
times-effect job v Page flag good fit inv goes = times-page job v inv (page_goes job v flag goes).live
times-effect job v (Send s) flag good fit inv goes = times-sent job v s inv (let lt = ltb-true _ _ fit in omega (arith, inv.lists.streams))
times-effect job v (Deliver s) flag good fit inv goes = times-delivered job v s inv (let lt = ltb-true _ _ fit in omega (arith, inv.lists.streams))
times-effect job v Apply flag good fit inv goes = times-applied_next job v inv (apply_goes job v flag goes).ready
times-effect job v Ack flag good fit inv goes = inv.times
times-effect job v Credit flag good fit inv goes = inv.times
times-effect job v Stun flag good fit inv goes = inv.times
times-effect job v Switch flag good fit inv goes = inv.times
times-effect job v Cancel flag good fit inv goes = inv.times

-- an event whose call fails moves no message; the mark may grow
times-fault : (job : Job) (v : View) (e : Event) → IsViewOf job v → Times (fault_effect v e)
times-fault job v (Guest g) inv = times-ended job v (is_live v.phase) inv
times-fault job v (Begin d) inv = inv.times
times-fault job v (Read d) inv = inv.times
times-fault job v (Advance d) inv = inv.times
times-fault job v (Release d) inv = times-ended job v (is_live v.phase) inv
times-fault job v Round inv = inv.times
times-fault job v Page inv = inv.times
times-fault job v (Send s) inv = inv.times
times-fault job v (Deliver s) inv = inv.times
times-fault job v Apply inv = inv.times
times-fault job v Ack inv = inv.times
times-fault job v Credit inv = inv.times
times-fault job v Stun inv = inv.times
times-fault job v Switch inv = inv.times
times-fault job v Cancel inv = inv.times

pub times-step : (job : Job) (v : View) (e : Event) (flag : Bool) → IsGoodJob job → fits job e ≡ true → IsViewOf job v → Times (step job v e flag)
times-step job v e flag good fit inv = step_cases Times job v e flag inv.times (λ goes _. times-effect job v e flag good fit inv goes) (λ _ _. times-fault job v e inv)

-- In the outbox the versions of one unit rise, above every version sent, held or applied, over each event.
use Rattle.std.specs.Prelude.{◌≡◌, ◌≤◌, ◌<◌, ℕ, zero, suc, ◌+◌, Bool, true, false, List, length, set, None, if◌then◌else◌}
use Rattle.std.proofs.Common.{arith, refl, ap, sym, subst, inl, inr}
use Rattle.std.proofs.lemmas.Bool.{ltb-true, cases_eq}
use Rattle.xv_model.specs.Job.{Job, UnitOp, IsGoodJob, unit_count}
use Rattle.xv_model.specs.View.{View, Outbox, disk, front, number, least, is_running, is_ready, ready_message}
use Rattle.xv_model.specs.Wait.{Event, Aim, Alone, Store, Join, Mirror, wait, fits, next_operation, next_aim}
use Rattle.xv_model.specs.Effect.{effect, fault_effect, made, made_run, guest_by, advanced, released, page_sent_off, sent, batch, delivered, applied_next, cursor_unit}
use Rattle.xv_model.specs.Step.{step}
use Rattle.xv_model.specs.Outstanding.{Bag, on_the_way, outstanding, is_version}
use Rattle.xv_model.specs.Invariant.{EachVersionOnce, OutboxRises, message_at, IsViewOf}
use Rattle.xv_base.specs.declared.event.Event.TheVariants.{Guest, Begin, Read, Advance, Release, Round, Page, Send, Deliver, Apply, Ack, Credit, Stun, Switch, Cancel}
use Rattle.xv_model.proofs.Bags.{is_version-from, on_the_way-applied, on_the_way-sent, on_the_way-delivered-bag, ready-on_the_way, ready-outstanding, version-unit}
use Rattle.xv_model.proofs.GoesOn.{advance_goes, apply_goes}
use Rattle.xv_model.proofs.Steps.{step_cases}
use Rattle.xv_model.proofs.Facts.{region_units}
use Rattle.xv_model.proofs.Points.Versions.{box_bag, versions-made_run, number-set_same, number-set_other}
use Rattle.xv_model.proofs.Points.Outboxes.{rises-made, rises-dropped}

-- the point of a view
abbrev pub Rises : View → Type 0
Rises v = OutboxRises v.outbox.messages (on_the_way v) v.hold.applied

rises-made_view : (job : Job) (v : View) (unit at : ℕ) → IsViewOf job v → OutboxRises (made v.outbox unit at).messages (on_the_way v) v.hold.applied
rises-made_view job v unit at inv = rises-made v.outbox (on_the_way v) v.hold.applied unit at inv.versions inv.outbox

pub rises-guest_by : (job : Job) (v : View) (g : ℕ) (op : UnitOp) (a : Aim) → IsViewOf job v → Rises (guest_by job v g op a)
rises-guest_by job v g op Alone inv = inv.outbox
rises-guest_by job v g op Store inv = inv.outbox
rises-guest_by job v g op Join inv = inv.outbox
rises-guest_by job v g op Mirror inv = rises-made_view job v op.unit.0 (length v.history + 1) inv

rises-made_run : (box : Outbox) (way : Bag) (applied : List ℕ) (unit at n : ℕ) → unit + n ≤ length box.issued → EachVersionOnce (box_bag box way) box.issued applied → OutboxRises box.messages way applied → OutboxRises (made_run box unit at n).messages way applied
rises-made_run box way applied unit at zero there p o = o
rises-made_run box way applied unit at (suc n) there p o =
    rises-made (made_run box unit at n) way applied (unit + n) at
    (versions-made_run box way applied unit at n (omega arith) p)
    (rises-made_run box way applied unit at n (omega arith) p o)

pub rises-advanced : (job : Job) (v : View) (d : ℕ) → IsViewOf job v → cursor_unit job v d + (disk v d).region ≤ unit_count job → Rises (advanced job v d)
rises-advanced job v d inv there =
    rises-made_run v.outbox (on_the_way v) v.hold.applied (cursor_unit job v d) (length v.history) (disk v d).region (omega (arith, inv.lists.issued)) inv.versions inv.outbox

rises-made_if : (job : Job) (v : View) (b : Bool) (unit at : ℕ) → IsViewOf job v → OutboxRises (if b then made v.outbox unit at else v.outbox).messages (on_the_way v) v.hold.applied
rises-made_if job v true unit at inv = rises-made_view job v unit at inv
rises-made_if job v false unit at inv = inv.outbox

pub rises-released : (job : Job) (v : View) (d : ℕ) → IsViewOf job v → Rises (released v d)
rises-released job v d inv = rises-made_if job v (is_running v.phase) (front (disk v d)).unit.0 (length v.history + 1) inv

pub rises-page : (job : Job) (v : View) → IsViewOf job v → Rises (page_sent_off v)
rises-page job v inv = rises-made_view job v (least v.to_send) (length v.history) inv

pub rises-sent : (job : Job) (v : View) (s : ℕ) → IsViewOf job v → s < length v.streams → Rises (sent job v s)
rises-sent job v s inv there = rises-dropped v.outbox.messages (on_the_way v) (on_the_way (sent job v s)) v.hold.applied (batch job v) (on_the_way-sent job v s there) inv.outbox

pub rises-delivered : (job : Job) (v : View) (s : ℕ) → IsViewOf job v → s < length v.streams → Rises (delivered v s)
rises-delivered job v s inv there = subst (λ (b : Bag). OutboxRises v.outbox.messages b v.hold.applied) (sym (on_the_way-delivered-bag v s there)) inv.outbox

-- the unit of a message in the outbox is that of the ready message, or another
pub rises-applied_next : (job : Job) (v : View) → IsViewOf job v → is_ready v.hold ≡ true → Rises (applied_next v)
rises-applied_next job v inv e =
    let m = ready_message v.hold in
    let there = version-unit (outstanding v) v.outbox.issued v.hold.applied m.unit.0 m.version inv.versions (ready-outstanding v e) in
    let same = number-set_same v.hold.applied m.unit.0 m.version (omega (arith, inv.lists.issued, inv.lists.applied)) in
    record {
      rising = inv.outbox.rising;
      above_sent = λ i version within h.
          let a = on_the_way-applied v e (is_version (message_at v.outbox.messages i).unit.0 version) in
          inv.outbox.above_sent i version within (omega arith);
      above_applied = λ i within. elim (cases_eq (message_at v.outbox.messages i).unit.0 m.unit.0) [
        | inl is ↦
            let way = ready-on_the_way v e (is_version (message_at v.outbox.messages i).unit.0 m.version) (is_version-from (message_at v.outbox.messages i).unit.0 m.version m (sym is) refl) in
            let a = inv.outbox.above_sent i m.version within way in
            let b = ap (number (set v.hold.applied m.unit.0 m.version)) is in
            omega arith
        | inr ne ↦
            let a = inv.outbox.above_applied i within in
            let b = number-set_other v.hold.applied m.unit.0 m.version (message_at v.outbox.messages i).unit.0 ne in
            omega arith
      ];
    }

rises-effect : (job : Job) (v : View) (e : Event) (flag : Bool) → IsGoodJob job → fits job e ≡ true → IsViewOf job v → wait job v e flag ≡ None → Rises (effect job v e)
rises-effect job v (Guest g) flag good fit inv goes = rises-guest_by job v g.0 (next_operation job v g.0) (next_aim job v g.0) inv
rises-effect job v (Begin d) flag good fit inv goes = inv.outbox
rises-effect job v (Read d) flag good fit inv goes = inv.outbox
rises-effect job v (Advance d) flag good fit inv goes = rises-advanced job v d inv (region_units job v d (ltb-true _ _ fit) inv (advance_goes job v d flag goes))
rises-effect job v (Release d) flag good fit inv goes = rises-released job v d inv
rises-effect job v Round flag good fit inv goes = inv.outbox
rises-effect job v Page flag good fit inv goes = rises-page job v inv
rises-effect job v (Send s) flag good fit inv goes = rises-sent job v s inv (let lt = ltb-true _ _ fit in omega (arith, inv.lists.streams))
rises-effect job v (Deliver s) flag good fit inv goes = rises-delivered job v s inv (let lt = ltb-true _ _ fit in omega (arith, inv.lists.streams))
rises-effect job v Apply flag good fit inv goes = rises-applied_next job v inv (apply_goes job v flag goes).ready
rises-effect job v Ack flag good fit inv goes = inv.outbox
rises-effect job v Credit flag good fit inv goes = inv.outbox
rises-effect job v Stun flag good fit inv goes = inv.outbox
rises-effect job v Switch flag good fit inv goes = inv.outbox
rises-effect job v Cancel flag good fit inv goes = inv.outbox

-- an event whose call fails, or that gives the migration up, moves no message
rises-fault : (job : Job) (v : View) (e : Event) → IsViewOf job v → Rises (fault_effect v e)
rises-fault job v (Guest g) inv = inv.outbox
rises-fault job v (Begin d) inv = inv.outbox
rises-fault job v (Read d) inv = inv.outbox
rises-fault job v (Advance d) inv = inv.outbox
rises-fault job v (Release d) inv = inv.outbox
rises-fault job v Round inv = inv.outbox
rises-fault job v Page inv = inv.outbox
rises-fault job v (Send s) inv = inv.outbox
rises-fault job v (Deliver s) inv = inv.outbox
rises-fault job v Apply inv = inv.outbox
rises-fault job v Ack inv = inv.outbox
rises-fault job v Credit inv = inv.outbox
rises-fault job v Stun inv = inv.outbox
rises-fault job v Switch inv = inv.outbox
rises-fault job v Cancel inv = inv.outbox

pub rises-step : (job : Job) (v : View) (e : Event) (flag : Bool) → IsGoodJob job → fits job e ≡ true → IsViewOf job v → Rises (step job v e flag)
rises-step job v e flag good fit inv = step_cases Rises job v e flag inv.outbox (λ goes _. rises-effect job v e flag good fit inv goes) (λ _ _. rises-fault job v e inv)

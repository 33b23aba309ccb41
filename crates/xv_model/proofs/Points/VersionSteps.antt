-- Each version stays outstanding once, over each event.
use Rattle.std.specs.Prelude.{◌≡◌, ◌≤◌, ◌<◌, ℕ, ◌+◌, Bool, true, false, length, None, if◌then◌else◌}
use Rattle.std.proofs.Common.{arith, sym, subst}
use Rattle.std.proofs.lemmas.Bool.{ltb-true}
use Rattle.xv_model.specs.Job.{Job, UnitOp, IsGoodJob, unit_count}
use Rattle.xv_model.specs.View.{View, disk, front, least, is_running, is_ready, ready_message}
use Rattle.xv_model.specs.Wait.{Event, Aim, Alone, Store, Join, Mirror, wait, fits, next_operation, next_aim}
use Rattle.xv_model.specs.Effect.{effect, fault_effect, made, guest_by, advanced, released, page_sent_off, sent, delivered, applied_next, cursor_unit}
use Rattle.xv_model.specs.Step.{step}
use Rattle.xv_model.specs.Outstanding.{Bag, on_the_way, outstanding}
use Rattle.xv_model.specs.Invariant.{EachVersionOnce, IsViewOf}
use Rattle.xv_base.specs.declared.event.Event.TheVariants.{Guest, Begin, Read, Advance, Release, Round, Page, Send, Deliver, Apply, Ack, Credit, Stun, Switch, Cancel}
use Rattle.xv_model.proofs.Bags.{outstanding-applied, ready-next, ready-outstanding, outstanding-sent-bag, outstanding-delivered-bag, version-within, version-unit}
use Rattle.xv_model.proofs.GoesOn.{guest_goes, advance_goes, release_goes, page_goes, apply_goes}
use Rattle.xv_model.proofs.Steps.{step_cases}
use Rattle.xv_model.proofs.Facts.{mirror_unit, front_unit, page_unit, region_units}
use Rattle.xv_model.proofs.Points.Versions.{box_bag, versions-made-box, versions-made_run, versions-applied}

-- the point of a view
abbrev pub Versions : View → Type 0
Versions v = EachVersionOnce (outstanding v) v.outbox.issued v.hold.applied

versions-made_view : (job : Job) (v : View) (unit at : ℕ) → IsViewOf job v → unit < unit_count job → EachVersionOnce (box_bag (made v.outbox unit at) (on_the_way v)) (made v.outbox unit at).issued v.hold.applied
versions-made_view job v unit at inv there = versions-made-box v.outbox (on_the_way v) v.hold.applied unit at (omega (arith, inv.lists.issued)) inv.versions

pub versions-guest_by : (job : Job) (v : View) (g : ℕ) (op : UnitOp) (a : Aim) → IsViewOf job v → op.unit.0 < unit_count job → Versions (guest_by job v g op a)
versions-guest_by job v g op Alone inv there = inv.versions
versions-guest_by job v g op Store inv there = inv.versions
versions-guest_by job v g op Join inv there = inv.versions
versions-guest_by job v g op Mirror inv there = versions-made_view job v op.unit.0 (length v.history + 1) inv there

pub versions-advanced : (job : Job) (v : View) (d : ℕ) → IsViewOf job v → cursor_unit job v d + (disk v d).region ≤ unit_count job → Versions (advanced job v d)
versions-advanced job v d inv there =
    versions-made_run v.outbox (on_the_way v) v.hold.applied (cursor_unit job v d) (length v.history) (disk v d).region (omega (arith, inv.lists.issued)) inv.versions

versions-made_if : (job : Job) (v : View) (b : Bool) (unit at : ℕ) → IsViewOf job v → unit < unit_count job → EachVersionOnce (box_bag (if b then made v.outbox unit at else v.outbox) (on_the_way v)) (if b then made v.outbox unit at else v.outbox).issued v.hold.applied
versions-made_if job v true unit at inv there = versions-made_view job v unit at inv there
versions-made_if job v false unit at inv there = inv.versions

pub versions-released : (job : Job) (v : View) (d : ℕ) → IsViewOf job v → (front (disk v d)).unit.0 < unit_count job → Versions (released v d)
versions-released job v d inv there = versions-made_if job v (is_running v.phase) (front (disk v d)).unit.0 (length v.history + 1) inv there

pub versions-page : (job : Job) (v : View) → IsViewOf job v → least v.to_send < unit_count job → Versions (page_sent_off v)
versions-page job v inv there = versions-made_view job v (least v.to_send) (length v.history) inv there

pub versions-sent : (job : Job) (v : View) (s : ℕ) → IsViewOf job v → s < length v.streams → Versions (sent job v s)
versions-sent job v s inv there = subst (λ (b : Bag). EachVersionOnce b v.outbox.issued v.hold.applied) (sym (outstanding-sent-bag job v s there)) inv.versions

pub versions-delivered : (job : Job) (v : View) (s : ℕ) → IsViewOf job v → s < length v.streams → Versions (delivered v s)
versions-delivered job v s inv there = subst (λ (b : Bag). EachVersionOnce b v.outbox.issued v.hold.applied) (sym (outstanding-delivered-bag v s there)) inv.versions

pub versions-applied_next : (job : Job) (v : View) → IsViewOf job v → is_ready v.hold ≡ true → Versions (applied_next v)
versions-applied_next job v inv e =
    let m = ready_message v.hold in
    let h = ready-outstanding v e in
    let there = version-unit (outstanding v) v.outbox.issued v.hold.applied m.unit.0 m.version inv.versions h in
    let within = version-within (outstanding v) v.outbox.issued v.hold.applied m.unit.0 m.version inv.versions h in
    versions-applied (outstanding v) (outstanding (applied_next v)) v.outbox.issued v.hold.applied m (omega (arith, inv.lists.issued, inv.lists.applied)) (ready-next v.hold e) within (outstanding-applied v e) inv.versions

versions-effect : (job : Job) (v : View) (e : Event) (flag : Bool) → IsGoodJob job → fits job e ≡ true → IsViewOf job v → wait job v e flag ≡ None → Versions (effect job v e)
versions-effect job v (Guest g) flag good fit inv goes = versions-guest_by job v g.0 (next_operation job v g.0) (next_aim job v g.0) inv (mirror_unit job v g.0 good (guest_goes job v g.0 flag goes))
versions-effect job v (Begin d) flag good fit inv goes = inv.versions
versions-effect job v (Read d) flag good fit inv goes = inv.versions
versions-effect job v (Advance d) flag good fit inv goes = versions-advanced job v d inv (region_units job v d (ltb-true _ _ fit) inv (advance_goes job v d flag goes))
versions-effect job v (Release d) flag good fit inv goes = versions-released job v d inv (front_unit job v d inv (release_goes job v d flag goes))
versions-effect job v Round flag good fit inv goes = inv.versions
versions-effect job v Page flag good fit inv goes = versions-page job v inv (page_unit job v inv (page_goes job v flag goes))
versions-effect job v (Send s) flag good fit inv goes = versions-sent job v s inv (let lt = ltb-true _ _ fit in omega (arith, inv.lists.streams))
versions-effect job v (Deliver s) flag good fit inv goes = versions-delivered job v s inv (let lt = ltb-true _ _ fit in omega (arith, inv.lists.streams))
versions-effect job v Apply flag good fit inv goes = versions-applied_next job v inv (apply_goes job v flag goes).ready
versions-effect job v Ack flag good fit inv goes = inv.versions
versions-effect job v Credit flag good fit inv goes = inv.versions
versions-effect job v Stun flag good fit inv goes = inv.versions
versions-effect job v Switch flag good fit inv goes = inv.versions
versions-effect job v Cancel flag good fit inv goes = inv.versions

-- an event whose call fails, or that gives the migration up, makes and moves no message
versions-fault : (job : Job) (v : View) (e : Event) → IsViewOf job v → Versions (fault_effect v e)
versions-fault job v (Guest g) inv = inv.versions
versions-fault job v (Begin d) inv = inv.versions
versions-fault job v (Read d) inv = inv.versions
versions-fault job v (Advance d) inv = inv.versions
versions-fault job v (Release d) inv = inv.versions
versions-fault job v Round inv = inv.versions
versions-fault job v Page inv = inv.versions
versions-fault job v (Send s) inv = inv.versions
versions-fault job v (Deliver s) inv = inv.versions
versions-fault job v Apply inv = inv.versions
versions-fault job v Ack inv = inv.versions
versions-fault job v Credit inv = inv.versions
versions-fault job v Stun inv = inv.versions
versions-fault job v Switch inv = inv.versions
versions-fault job v Cancel inv = inv.versions

pub versions-step : (job : Job) (v : View) (e : Event) (flag : Bool) → IsGoodJob job → fits job e ≡ true → IsViewOf job v → Versions (step job v e flag)
versions-step job v e flag good fit inv = step_cases Versions job v e flag inv.versions (λ goes _. versions-effect job v e flag good fit inv goes) (λ _ _. versions-fault job v e inv)

-- What each call on the outside is made on: its kind, its part, and how a journal's calls grow.
use Rattle.std.specs.Prelude.{◌≡◌, ◌<◌, ℕ, ◌+◌, Bool, true, false, List, [], ◌∷◌, ◌++◌, length, None, IfSome, is_some, count_by, if◌then◌else◌}
use Rattle.std.proofs.Common.{arith, refl, ap, ◌∙◌, append_assoc, append-nil, sym}
use Rattle.std.proofs.lemmas.Bool.{ltb-true}
use Rattle.std.proofs.lemmas.List.Sums.{sum_by_push}
use Rattle.xv_model.specs.Job.{Job, IsGoodJob, IsLegal, UnitOp, unit_count}
use Rattle.xv_model.specs.Guest.{ended}
use Rattle.xv_model.specs.View.{View, first_view, is_switched, disk, front, least, ready, ready_message}
use Rattle.xv_model.specs.Wait.{Event, wait, fits, next_operation, next_aim, is_join}
use Rattle.xv_model.specs.Effect.{cursor_unit}
use Rattle.xv_model.specs.Step.{Entry, Call, call, guest_call, same_call, calls, step, after, run, is_flagged}
use Rattle.xv_model.specs.Outstanding.{is_version}
use Rattle.xv_model.specs.Invariant.{IsViewOf}
use Rattle.xv_model.specs.Contents.{front_operation}
use Rattle.xv_model.specs.Outside.{Outside, Part, NoOutside, ReadSource, WriteSource, ReadDest, WriteDest, kind, part, part_of, whole, outside, IsWithin, unless_failed, calls_made_from, calls_made, calls_of_kind}
use Rattle.xv_base.specs.declared.event.Event.TheVariants.{Guest, Begin, Read, Advance, Release, Round, Page, Send, Deliver, Apply, Ack, Credit, Stun, Switch, Cancel}
use Rattle.xv_model.proofs.GoesOn.{guest_goes, read_goes, release_goes, page_goes, apply_goes}
use Rattle.xv_model.proofs.Facts.{page_unit, legal_unit}
use Rattle.xv_model.proofs.Layouts.{is_block_after}
use Rattle.xv_model.proofs.Legal.{front_has_more}
use Rattle.xv_model.proofs.OneMore.{calls-one}
use Rattle.xv_model.proofs.Contents.Messages.{count-at, version_in_range, version_same}

-- the kind of a guest's call
guest_kind : (q s w : Bool) (p : Part) → kind (if q then NoOutside else (if s then (if w then WriteDest p else ReadDest p) else (if w then WriteSource p else ReadSource p))) ≡ guest_call q s w
guest_kind true s w p = refl
guest_kind false true true p = refl
guest_kind false true false p = refl
guest_kind false false true p = refl
guest_kind false false false p = refl

pub kind-call : (job : Job) (v : View) (e : Event) → kind (outside job v e) ≡ call job v e
kind-call job v (Guest g) = guest_kind (is_join (next_aim job v g.0)) (is_switched v.phase) (is_some (next_operation job v g.0).write) (part_of (next_operation job v g.0))
kind-call job v (Begin d) = refl
kind-call job v (Read d) = refl
kind-call job v (Advance d) = refl
kind-call job v (Release d) = refl
kind-call job v Round = refl
kind-call job v Page = refl
kind-call job v (Send s) = refl
kind-call job v (Deliver s) = refl
kind-call job v Apply = refl
kind-call job v Ack = refl
kind-call job v Credit = refl
kind-call job v Stun = refl
kind-call job v Switch = refl
kind-call job v Cancel = refl

-- one entry more
calls_made_from-one : (job : Job) (v : View) (es : List Entry) (e : Entry) → calls_made_from job v (es ++ e ∷ []) ≡ calls_made_from job v es ++ unless_failed (is_flagged e.turn) (outside job (after job v es) e.event)
calls_made_from-one job v [] e = append-nil (unless_failed (is_flagged e.turn) (outside job v e.event))
calls_made_from-one job v (x ∷ es) e =
    let here = unless_failed (is_flagged x.turn) (outside job v x.event) in
    let w = step job v x.event (is_flagged x.turn) in
    ap (λ (os : List Outside). here ++ os) (calls_made_from-one job w es e)
    ∙ sym (append_assoc here (calls_made_from job w es) (unless_failed (is_flagged e.turn) (outside job (after job w es) e.event)))

pub calls_made-one : (job : Job) (journal : List Entry) (e : Entry) → calls_made job (journal ++ e ∷ []) ≡ calls_made job journal ++ unless_failed (is_flagged e.turn) (outside job (run job journal) e.event)
calls_made-one job journal e = calls_made_from-one job (first_view job) journal e

pub calls_of_kind-one : (job : Job) (journal : List Entry) (e : Entry) (c : Call) → calls_of_kind job (journal ++ e ∷ []) c ≡ calls_of_kind job journal c + (if same_call c (call job (run job journal) e.event) then 1 else 0)
calls_of_kind-one job journal e c =
    ap (λ (cs : List Call). count_by (same_call c) cs) (calls-one job journal e)
    ∙ sum_by_push (λ (k : Call). if same_call c k then 1 else 0) (calls job journal) (call job (run job journal) e.event)

-- the parts are within their units
whole_within : (job : Job) (unit : ℕ) → unit < unit_count job → IsWithin job (whole job unit)
whole_within job unit lt = record { unit_is = lt; in_unit = omega arith }

legal_within : (job : Job) (op : UnitOp) → IsGoodJob job → IsLegal job.shape op → IsWithin job (part_of op)
legal_within job op good l = record { unit_is = legal_unit job op good l; in_unit = l.in_unit }

guest_within : (job : Job) (q s w : Bool) (p : Part) → IsWithin job p → IfSome (part (if q then NoOutside else (if s then (if w then WriteDest p else ReadDest p) else (if w then WriteSource p else ReadSource p)))) (IsWithin job)
guest_within job true s w p h = tt
guest_within job false true true p h = h
guest_within job false true false p h = h
guest_within job false false true p h = h
guest_within job false false false p h = h

read_unit : (job : Job) (v : View) (d : ℕ) (flag : Bool) → d < length job.copy.disks → IsViewOf job v → wait job v (Read d) flag ≡ None → cursor_unit job v d + (disk v d).got < unit_count job
read_unit job v d flag there inv w =
    let goes = read_goes job v d flag w in
    let fits = inv.regions.cursor_fits d (omega (arith, inv.lists.disks)) in
    (is_block_after job.copy d (disk v d).cursor (disk v d).got there (omega (arith, goes.not_read, fits))).in_range

pub ready_unit : (job : Job) (v : View) (flag : Bool) → IsViewOf job v → wait job v Apply flag ≡ None → (ready_message v.hold).unit.0 < unit_count job
ready_unit job v flag inv w =
    let goes = apply_goes job v flag w in
    let m = ready_message v.hold in
    let is_held : ready v.hold < length v.hold.held = ltb-true (ready v.hold) (length v.hold.held) goes.ready in
    let counted = count-at (is_version m.unit.0 m.version) v.hold.held (ready v.hold) is_held (version_same m) in
    version_in_range job v m.unit.0 m.version inv (omega arith)

pub parts-within : (job : Job) (v : View) (e : Event) (flag : Bool) → IsGoodJob job → fits job e ≡ true → IsViewOf job v → wait job v e flag ≡ None → IfSome (part (outside job v e)) (IsWithin job)
parts-within job v (Guest g) flag good f inv w =
    let op = next_operation job v g.0 in
    guest_within job (is_join (next_aim job v g.0)) (is_switched v.phase) (is_some op.write) (part_of op) (legal_within job op good (good.legal g.0 (ended v.history g.0) (guest_goes job v g.0 flag w).more))
parts-within job v (Begin d) flag good f inv w = tt
parts-within job v (Read d) flag good f inv w = whole_within job (cursor_unit job v d + (disk v d).got) (read_unit job v d flag (ltb-true d (length job.copy.disks) f) inv w)
parts-within job v (Advance d) flag good f inv w = tt
parts-within job v (Release d) flag good f inv w =
    let g = (front (disk v d)).guest.0 in
    legal_within job (front_operation job v d) good (good.legal g (ended v.history g) (front_has_more job v d inv (release_goes job v d flag w).some_queue))
parts-within job v Round flag good f inv w = tt
parts-within job v Page flag good f inv w = whole_within job (least v.to_send) (page_unit job v inv (page_goes job v flag w))
parts-within job v (Send s) flag good f inv w = tt
parts-within job v (Deliver s) flag good f inv w = tt
parts-within job v Apply flag good f inv w = whole_within job (ready_message v.hold).unit.0 (ready_unit job v flag inv w)
parts-within job v Ack flag good f inv w = tt
parts-within job v Credit flag good f inv w = tt
parts-within job v Stun flag good f inv w = tt
parts-within job v Switch flag good f inv w = tt
parts-within job v Cancel flag good f inv w = tt

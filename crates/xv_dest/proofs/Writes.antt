-- The first held message that is its unit's next version is written: its event's part in the destination.
use Rattle.std.proofs.Common.{◌≡◌, ℕ, Bool, true, false, List, [], set, Some, None, refl, ap, subst, ◌∙◌}
use Rattle.std.specs.Prelude.{unwrap_or, is_some}
use Rattle.xv_base.specs.declared.answer.Turn.TheVariants.{Wait, Failed}
use Rattle.xv_base.specs.declared.answer.Why.TheVariants.{NothingThere}
use Rattle.xv_base.specs.declared.answer.Cause.TheVariants.{DestWrite}
use Rattle.xv_base.specs.declared.event.Event.TheVariants.{Apply}
use Rattle.xv_device.specs.Device.{WriteUnit}
use Rattle.xv_device.specs.Told.{Told, CallMade}
use Rattle.xv_model.specs.Job.{Job}
use Rattle.xv_model.specs.View.{View, UnitHead, is_live}
use Rattle.xv_model.specs.Wait.{wait}
use Rattle.xv_model.specs.Effect.{Turn, note}
use Rattle.xv_model.specs.Step.{is_flagged}
use Rattle.xv_model.specs.Contents.{Contents, moves}
use Rattle.xv_dest.specs.Half.{Dest, IsDestOf, HasDestBytes, with_dest, with_dest_bytes}
use Rattle.xv_dest.specs.Step.{Allows, StepsDest, MovesDest, MakesCall, ready_write, went_out}
use Rattle.xv_dest.proofs.Steps.{steps-at, moves-at, of-itself, steps-waiting, moves-waiting, steps-failing, steps-going, moves-going}
use Rattle.xv_dest.proofs.Telling.{tells_after, told_then}
use Rattle.xv_dest.proofs.Held.{ready_head, ready_content, has_ready, HasNoneReady, IsReady, written_dest}

goes : (job : Job) (v : View) (h : Dest) (flag : Bool) → is_live v.phase ≡ true → has_ready h ≡ true → wait job (with_dest v h) Apply flag ≡ None
goes job v h flag live ready = rw (live, ready) refl

waits : (job : Job) (v : View) (h : Dest) → is_live v.phase ≡ true → has_ready h ≡ false → wait job (with_dest v h) Apply false ≡ Some NothingThere
waits job v h live ready = rw (live, ready) refl

-- nothing is ready
pub steps-not_ready : (job : Job) (v : View) (h : Dest) → HasNoneReady h → Allows job v Apply h → StepsDest job v Apply (Wait NothingThere) h h
steps-not_ready job v h ready a = steps-at job v Apply (Wait NothingThere) h h a.of.part (steps-waiting job (with_dest v h) Apply NothingThere h (of-itself job v h a.of) (waits job v h a.lets ready.none))

pub moves-not_ready : (job : Job) (v : View) (c : Contents) (h : Dest) → HasNoneReady h → Allows job v Apply h → HasDestBytes c h → MovesDest job v c Apply (Wait NothingThere) h
moves-not_ready job v c h ready a has = moves-at job v c Apply (Wait NothingThere) h h a.of.part (moves-waiting job (with_dest v h) c Apply NothingThere h has (waits job v h a.lets ready.none))

-- it is written
pub steps-written : (job : Job) (v : View) (old new : Dest) (told : Told) (faults : ℕ) (head : UnitHead) (content : List ℕ) → IsReady old head content → new ≡ written_dest old told faults
    → Allows job v Apply old → StepsDest job v Apply (note head.unit.0 head.version) old new
steps-written job v old new told faults head content ready e allows =
    let of : IsDestOf job (with_dest v (written_dest old told faults)) (written_dest old told faults) = record { shape = allows.of.shape; limit = allows.of.limit; part = refl } in
    let s : StepsDest job v Apply (note (ready_head old).unit.0 (ready_head old).version) old (written_dest old told faults) =
    steps-at job v Apply _ old _ allows.of.part (steps-going job (with_dest v old) Apply _ old (written_dest old told faults) (goes job v old false allows.lets ready.has) of refl refl refl) in
    rw (e, ready.head_is) s

pub moves-written : (job : Job) (v : View) (c : Contents) (old new : Dest) (told : Told) (faults : ℕ) (head : UnitHead) (content : List ℕ) → IsReady old head content → new ≡ written_dest old told faults
    → CallMade (WriteUnit head.unit.0 content) false old.told told old.faults faults
    → Allows job v Apply old → HasDestBytes c old → MovesDest job v c Apply (note head.unit.0 head.version) new
moves-written job v c old new told faults head content ready e made allows has =
    let w = with_dest v old in
    let b = with_dest_bytes c old in
    let set_at = λ (contents : List (List ℕ)). set contents head.unit.0 content in
    let tells : is_some told.contents ≡ true = ap (λ (t : Told). is_some t.contents) made.told ∙ tells_after old.told.contents set_at has.told in
    let dest : unwrap_or told.contents [] ≡ set (unwrap_or old.told.contents []) (ready_head old).unit.0 (ready_content old) =
    ap (λ (t : Told). unwrap_or t.contents []) made.told ∙ told_then old.told.contents set_at has.told ∙ rw (ready.head_is, ready.content_is) refl in
    let bytes : HasDestBytes (moves job w Apply b) (written_dest old told faults) = record { told = tells; part = rw dest refl } in
    let m : MovesDest job v c Apply (note head.unit.0 head.version) (written_dest old told faults) =
    moves-at job v c Apply _ old _ allows.of.part (subst (λ (x : Contents). MovesDest job w x Apply (note head.unit.0 head.version) (written_dest old told faults)) has.part (moves-going job w b Apply _ _ (goes job v old false allows.lets ready.has) bytes refl)) in
    rw e m

-- the write failed
pub steps-unwritten : (job : Job) (v : View) (old new : Dest) (told : Told) (faults : ℕ) (head : UnitHead) (content : List ℕ) → IsReady old head content → new ≡ record old { told = told; faults = faults }
    → Allows job v Apply old → StepsDest job v Apply (Failed DestWrite) old new
steps-unwritten job v old new told faults head content ready e allows =
    let of : IsDestOf job (with_dest v old) (record old { told = told; faults = faults }) = record { shape = allows.of.shape; limit = allows.of.limit; part = refl } in
    rw e (steps-at job v Apply (Failed DestWrite) old _ allows.of.part (steps-failing job (with_dest v old) Apply (Failed DestWrite) old _ of (goes job v old true allows.lets ready.has) refl refl refl refl))

-- the call that was made
pub makes-write : (old new : Dest) (a : Turn) (head : UnitHead) (content : List ℕ) → IsReady old head content → went_out a ≡ true
    → CallMade (WriteUnit head.unit.0 content) (is_flagged a) old.told new.told old.faults new.faults → MakesCall (ready_write old) a old new
makes-write old new a head content ready out made = record {
  made = λ _. subst (λ (b : List ℕ). CallMade (WriteUnit (ready_head old).unit.0 b) (is_flagged a) old.told new.told old.faults new.faults) ready.content_is
      (subst (λ (m : UnitHead). CallMade (WriteUnit m.unit.0 content) (is_flagged a) old.told new.told old.faults new.faults) ready.head_is made);
  none = λ n. absurd (cc);
}

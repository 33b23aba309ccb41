-- A guest's operation on the destination does to the contents what the machine says.
use Rattle.std.proofs.Common.{◌≡◌, ◌<◌, ◌≤◌, ℕ, ◌+◌, ◌&&◌, Bool, true, false, not, List, [], ◌++◌, length, set, take, drop, Option, Some, None, refl, sym, ap, subst, ◌∙◌, arith}
use Rattle.std.specs.Prelude.{nat_le, unwrap_or, is_some}
use Rattle.std.proofs.lemmas.List.{set-get_or, append-nil}
use Rattle.std.proofs.Math.ListN.{drop_of_length-le}
use Rattle.std.proofs.lemmas.Bool.{and_parts}
use Rattle.xv_base.specs.declared.event.Event.TheVariants.{Guest}
use Rattle.xv_base.specs.declared.unit.GuestId.{GuestId}
use Rattle.xv_base.specs.declared.event.Phase.{Phase}
use Rattle.xv_base.specs.declared.event.Phase.TheVariants.{Running, Stunned, Switched, Cancelled, Failed}
use Rattle.xv_base.specs.Units.{Shape, units, size, max_size, is_page}
use Rattle.xv_base.specs.Layout.{IsGood}
use Rattle.xv_base.proofs.Partition.{has_greatest_size}
use Rattle.xv_base.specs.Pattern.{repeated}
use Rattle.xv_device.specs.Device.{content, contents_after}
use Rattle.xv_device.specs.Told.{Told, CallMade, IsSized}
use Rattle.xv_device.specs.Operations.{operation_call, operation_call_by}
use Rattle.xv_base.proofs.Patterns.{length-repeated}
use Rattle.xv_model.specs.Job.{Job, UnitOp, IsLegal, trace}
use Rattle.xv_model.specs.Guest.{ended, overlaid}
use Rattle.xv_model.specs.View.{View, is_switched, in_queue}
use Rattle.xv_model.specs.Wait.{wait, next_operation}
use Rattle.xv_model.specs.Effect.{Turn}
use Rattle.xv_model.specs.Step.{is_flagged}
use Rattle.xv_model.specs.Contents.{Contents, moves, after_operation, unit_content}
use Rattle.xv_dest.specs.Half.{Dest, HasDestBytes}
use Rattle.xv_dest.specs.Step.{Allows, MovesDest}
use Rattle.xv_dest.proofs.Steps.{moves-failing, moves-going}
use Rattle.xv_dest.proofs.Telling.{tells_after, told_then, told_of}

-- the bytes of an operation are no more than those of the greatest unit
pub len_fits : (s : Shape) (op : UnitOp) → IsGood s → IsLegal s op → op.len ≤ max_size s
len_fits s op good legal = omega (arith, (has_greatest_size s good).most op.unit.0 legal.unit_is, legal.in_unit)

-- the call does to the contents what the operation does
after-by : (s : Shape) (op : UnitOp) (write : Option (List ℕ)) (b : Bool) (xs : List (List ℕ)) → is_page s op.unit.0 ≡ b
    → (is_some write ≡ true → b ≡ false → (op.offset ≡ 0) × (op.len ≡ length (unit_content xs op.unit.0)))
    → contents_after (operation_call_by s op write) xs ≡ set xs op.unit.0 (overlaid write op.offset op.len (unit_content xs op.unit.0))
after-by s op None b xs e whole = sym (set-get_or xs op.unit.0 [])
after-by s op (Some p) true xs e whole = rw e (ap (λ n. set xs op.unit.0 (take op.offset (unit_content xs op.unit.0) ++ repeated p op.len ++ drop (op.offset + n) (unit_content xs op.unit.0))) (length-repeated p op.len))
after-by s op (Some p) false xs e whole =
    let old = unit_content xs op.unit.0 in
    let past : drop (0 + op.len) old ≡ [] = drop_of_length-le old (omega (arith, (whole refl refl).1)) in
    rw (e, (whole refl refl).0, past) (ap (set xs op.unit.0) (sym (append-nil (repeated p op.len))))

-- after the switchover no wait is left to meet
switched_is : (p : Phase) → is_switched p ≡ true → p ≡ Switched
switched_is Running e = absurd (cc)
switched_is Stunned e = absurd (cc)
switched_is Switched e = refl
switched_is Cancelled e = absurd (cc)
switched_is Failed e = absurd (cc)

and-false : (b : Bool) → (b && false) ≡ false
and-false true = refl
and-false false = refl

not-so : (b : Bool) → not b ≡ true → b ≡ false
not-so true e = absurd (cc)
not-so false e = refl

record IsFree (job : Job) (v : View) (guest : ℕ) : Type 0 where
  more : nat_le (length (trace job guest)) (ended v.history guest) ≡ false
  no_queue : in_queue v.disks guest ≡ false
  phase : v.phase ≡ Switched

free : (job : Job) (v : View) (guest : GuestId) (h : Dest) → Allows job v (Guest guest) h → IsFree job v guest.0
free job v guest h a =
    let both = and_parts _ _ a.lets in
    let first = and_parts _ _ both.0 in
    record {
      more = not-so _ first.0;
      no_queue = not-so _ first.1;
      phase = switched_is v.phase both.1;
    }

goes : (job : Job) (v : View) (guest : GuestId) → IsFree job v guest.0 → wait job v (Guest guest) false ≡ None
goes job v guest f = rw (f.more, f.no_queue, f.phase, and-false) refl

-- the content that a write of a whole block replaces has the size of what is written
block_is : (s : Shape) (op : UnitOp) (told : Told) → IsLegal s op → told.shape ≡ s → is_some told.contents ≡ true → IsSized told
    → is_some op.write ≡ true → is_page s op.unit.0 ≡ false → (op.offset ≡ 0) × (op.len ≡ length (unit_content (unwrap_or told.contents []) op.unit.0))
block_is s op told legal shape tells sized writes block =
    let whole = legal.whole_block writes block in
    let full : (unit : ℕ) → unit < units told.shape → length (unit_content (unwrap_or told.contents []) unit) ≡ size told.shape unit =
    told_of told.contents (λ cs. (unit : ℕ) → unit < units told.shape → length (content cs unit) ≡ size told.shape unit) tells sized.full in
    let in' : op.unit.0 < units told.shape = subst (λ (x : Shape). op.unit.0 < units x) (sym shape) legal.unit_is in
    (whole.0, whole.1 ∙ sym (full op.unit.0 in' ∙ ap (λ (x : Shape). size x op.unit.0) shape))

-- one call of the device was made, that of the operation
pub record Operated (s : Shape) (op : UnitOp) (failed : Bool) (old new : Dest) : Type 0 where
  pub made : CallMade (operation_call s op) failed old.told new.told old.faults new.faults
  pub contents : new.contents ≡ old.contents
  pub shape : old.told.shape ≡ s
  pub legal : IsLegal s op
  pub sized : IsSized old.told

failed-has : (c : Contents) (s : Shape) (op : UnitOp) (old new : Dest) → Operated s op true old new → HasDestBytes c old → HasDestBytes c new
failed-has c s op old new o has =
    let same : unwrap_or new.told.contents [] ≡ unwrap_or old.told.contents [] = ap (λ (t : Told). unwrap_or t.contents []) o.made.told ∙ told_then old.told.contents (λ cs. cs) has.told in
    record {
      told = ap (λ (t : Told). is_some t.contents) o.made.told ∙ tells_after old.told.contents (λ cs. cs) has.told;
      part = rw (same, o.contents) has.part;
    }

done-has : (job : Job) (v : View) (c : Contents) (guest : GuestId) (s : Shape) (op : UnitOp) (old new : Dest) → Operated s op false old new → v.phase ≡ Switched → next_operation job v guest.0 ≡ op → HasDestBytes c old → HasDestBytes (moves job v (Guest guest) c) new
done-has job v c guest s op old new o phase next has =
    let does = λ (cs : List (List ℕ)). contents_after (operation_call s op) cs in
    let was : unwrap_or old.told.contents [] ≡ c.dest = ap (λ (x : Contents). x.dest) has.part in
    let dest : unwrap_or new.told.contents [] ≡ after_operation op (unwrap_or old.told.contents []) =
    ap (λ (t : Told). unwrap_or t.contents []) o.made.told ∙ told_then old.told.contents does has.told
    ∙ after-by s op op.write (is_page s op.unit.0) (unwrap_or old.told.contents []) refl (block_is s op old.told o.legal o.shape has.told o.sized) in
    let is : unwrap_or new.told.contents [] ≡ (moves job v (Guest guest) c).dest = rw (phase, next) (dest ∙ ap (after_operation op) was) in
    let held : new.contents ≡ c.held = o.contents ∙ ap (λ (x : Contents). x.held) has.part in
    record {
      told = ap (λ (t : Told). is_some t.contents) o.made.told ∙ tells_after old.told.contents does has.told;
      part = rw (is, held) refl;
    }

pub moves-guest : (job : Job) (v : View) (c : Contents) (guest : GuestId) (s : Shape) (op : UnitOp) (a : Turn) (failed : Bool) (old new : Dest) → Operated s op failed old new → is_flagged a ≡ failed
    → Allows job v (Guest guest) old → next_operation job v guest.0 ≡ op → HasDestBytes c old → MovesDest job v c (Guest guest) a new
moves-guest job v c guest s op a true old new o flagged allows next has = moves-failing job v c (Guest guest) a new (failed-has c s op old new o has) flagged
moves-guest job v c guest s op a false old new o flagged allows next has =
    let f = free job v guest old allows in
    moves-going job v c (Guest guest) a new (goes job v guest f) (done-has job v c guest s op old new o f.phase next has) flagged

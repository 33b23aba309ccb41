-- What a device tells after an operation is what the machine says of its contents.
use Rattle.std.specs.Prelude.{◌≡◌, ◌<◌, ℕ, ◌+◌, Bool, true, false, List, [], ◌++◌, length, take, drop, set, Option, Some, None, is_some, unwrap_or, option_map, IfSome, if◌then◌else◌}
use Rattle.std.proofs.Common.{refl, sym, ap, subst, ◌∙◌, arith}
use Rattle.std.proofs.lemmas.List.{append-nil, set-get_or, get_or-set_same}
use Rattle.std.proofs.Math.ListN.{drop_of_length-le}
use Rattle.xv_base.specs.Units.{Shape, is_page, size, units}
use Rattle.xv_base.specs.Pattern.{repeated}
use Rattle.xv_device.specs.Device.{PatchRange, WriteUnit, content, contents_after}
use Rattle.xv_device.specs.Told.{Told, told_after, IsSized}
use Rattle.xv_model.specs.Job.{UnitOp, IsLegal}
use Rattle.xv_model.specs.Guest.{overlaid}
use Rattle.xv_model.specs.Contents.{unit_content, after_operation}
use Rattle.xv_source.specs.Step.{operation_call, operation_call_by}
use Rattle.xv_source.specs.Operations.{laid}
use Rattle.xv_source.proofs.Guesting.{length_repeated}

-- a whole block that is laid over is the pattern
pub whole-overlaid : (pattern x : List ℕ) (offset len : ℕ) → offset ≡ 0 → len ≡ length x → overlaid (Some pattern) offset len x ≡ repeated pattern len
whole-overlaid pattern x offset len start all =
    let rest : drop (0 + len) x ≡ [] = drop_of_length-le x (omega arith) in
    ap (λ n. take n x ++ repeated pattern len ++ drop (n + len) x) start
    ∙ ap (λ end. repeated pattern len ++ end) rest
    ∙ append-nil (repeated pattern len)

-- contents after the call of an operation; `w` is what it writes
by-write : (page : Bool) (s : Shape) (op : UnitOp) (pattern : List ℕ) (cs : List (List ℕ)) → (page ≡ false → (op.offset ≡ 0) × (op.len ≡ length (content cs op.unit.0))) →
    contents_after (if page then PatchRange op.unit.0 op.offset (repeated pattern op.len) else WriteUnit op.unit.0 (repeated pattern op.len)) cs
    ≡ set cs op.unit.0 (overlaid (Some pattern) op.offset op.len (content cs op.unit.0))
by-write true s op pattern cs whole =
    ap (λ n. set cs op.unit.0 (take op.offset (content cs op.unit.0) ++ repeated pattern op.len ++ drop (op.offset + n) (content cs op.unit.0))) (length_repeated pattern op.len)
by-write false s op pattern cs whole =
    ap (λ bytes. set cs op.unit.0 bytes) (sym (whole-overlaid pattern (content cs op.unit.0) op.offset op.len (whole refl).0 (whole refl).1))

by-option : (w : Option (List ℕ)) (s : Shape) (op : UnitOp) (cs : List (List ℕ)) → (is_some w ≡ true → is_page s op.unit.0 ≡ false → (op.offset ≡ 0) × (op.len ≡ length (content cs op.unit.0))) →
    contents_after (operation_call_by s op w) cs ≡ set cs op.unit.0 (overlaid w op.offset op.len (content cs op.unit.0))
by-option None s op cs whole = sym (set-get_or cs op.unit.0 [])
by-option (Some pattern) s op cs whole = by-write (is_page s op.unit.0) s op pattern cs (whole refl)

-- what is told where contents are
some-told : (o : Option (List (List ℕ))) (P : List (List ℕ) → Type 0) → is_some o ≡ true → IfSome o P → P (unwrap_or o [])
some-told None P some all = absurd (cc)
some-told (Some cs) P some all = all

mapped : (o : Option (List (List ℕ))) (f : List (List ℕ) → List (List ℕ)) → is_some o ≡ true → (is_some (option_map f o) ≡ true) × (unwrap_or (option_map f o) [] ≡ f (unwrap_or o []))
mapped None f some = absurd (cc)
mapped (Some cs) f some = (refl, refl)

-- the content of a unit of which the device tells has the unit's size
sized-content : (op : UnitOp) (told : Told) → IsLegal told.shape op → IsSized told → is_some told.contents ≡ true → length (content (unwrap_or told.contents []) op.unit.0) ≡ size told.shape op.unit.0
sized-content op told legal sized tells =
    some-told told.contents (λ cs. (unit : ℕ) → unit < units told.shape → length (content cs unit) ≡ size told.shape unit) tells sized.full op.unit.0 legal.unit_is

pub told-operated : (s : Shape) (op : UnitOp) (told : Told) → IsLegal s op → told.shape ≡ s → (is_some op.write ≡ true → IsSized told) → is_some told.contents ≡ true →
    unwrap_or (told_after (operation_call s op) false told).contents [] ≡ after_operation op (unwrap_or told.contents [])
told-operated s op told legal same sized tells =
    (mapped told.contents (contents_after (operation_call s op)) tells).1
    ∙ by-option op.write s op (unwrap_or told.contents []) (λ writes block.
    let w = legal.whole_block writes block in
    let l = subst (λ (x : Shape). IsLegal x op) (sym same) legal in
    (w.0, w.1 ∙ ap (λ (x : Shape). size x op.unit.0) (sym same) ∙ sym (sized-content op told l (sized writes) tells)))

pub tells-operated : (s : Shape) (op : UnitOp) (failed : Bool) (told : Told) → is_some told.contents ≡ true → is_some (told_after (operation_call s op) failed told).contents ≡ true
tells-operated s op failed told tells = (mapped told.contents (λ contents. if failed then contents else contents_after (operation_call s op) contents) tells).0

pub told-unchanged : (s : Shape) (op : UnitOp) (told : Told) → is_some told.contents ≡ true → unwrap_or (told_after (operation_call s op) true told).contents [] ≡ unwrap_or told.contents []
told-unchanged s op told tells = (mapped told.contents (λ contents. contents) tells).1

-- what a write of a block leaves there
pub block-written : (s : Shape) (op : UnitOp) (pattern : List ℕ) (told : Told) → IsLegal s op → told.shape ≡ s → IsSized told → is_some told.contents ≡ true → op.write ≡ Some pattern → is_page s op.unit.0 ≡ false →
    unit_content (after_operation op (unwrap_or told.contents [])) op.unit.0 ≡ laid op.write op.len
block-written s op pattern told legal same sized tells writes block =
    let cs = unwrap_or told.contents [] in
    let l = subst (λ (x : Shape). IsLegal x op) (sym same) legal in
    let there : op.unit.0 < length cs = omega (arith, some-told told.contents (λ xs. length xs ≡ units told.shape) tells sized.contents_each, l.unit_is) in
    let w = legal.whole_block (ap (λ (x : Option (List ℕ)). is_some x) writes) block in
    get_or-set_same cs op.unit.0 (overlaid op.write op.offset op.len (content cs op.unit.0)) [] there
    ∙ ap (λ (x : Option (List ℕ)). overlaid x op.offset op.len (content cs op.unit.0)) writes
    ∙ whole-overlaid pattern (content cs op.unit.0) op.offset op.len w.0 (w.1 ∙ ap (λ (x : Shape). size x op.unit.0) (sym same) ∙ sym (sized-content op told l sized tells))
    ∙ ap (λ (x : Option (List ℕ)). laid x op.len) (sym writes)

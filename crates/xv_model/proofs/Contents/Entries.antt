-- One more entry: the device's contents, a unit that it does not write, and the bytes read.
use Rattle.std.specs.Prelude.{◌≡◌, ◌<◌, ℕ, suc, ◌==◌, ◌&&◌, Bool, true, false, List, [], ◌∷◌, ◌++◌, length, is_some, is_none, Option, Some, None, if◌then◌else◌}
use Rattle.std.proofs.Common.{arith, refl, ap, sym, ◌∙◌}
use Rattle.std.proofs.lemmas.Bool.{eqb-true, eqb-false, and_right}
use Rattle.std.proofs.lemmas.List.{length_push, get_or-set_same, get_or-set_other, append-nil}
use Rattle.xv_model.specs.Job.{Job, UnitOp}
use Rattle.xv_model.specs.Guest.{Ended, is_done, writes_to, overlaid, written, content, part, reads}
use Rattle.xv_model.specs.Contents.{unit_content, after_operation, read_of}
use Rattle.xv_model.proofs.Contents.Histories.{operation_of, content-new, reads-new}

pub length-new : (h : List Ended) (e : Ended) → length (h ++ e ∷ []) ≡ suc (length h)
length-new h e = let l = length_push h e in omega arith

pub content-at_new : (job : Job) (h : List Ended) (e : Ended) (unit : ℕ) → content job (h ++ e ∷ []) unit (length (h ++ e ∷ [])) ≡ written (is_done e.outcome && writes_to (operation_of job h e) unit) (operation_of job h e) (content job h unit (length h))
content-at_new job h e unit = ap (content job (h ++ e ∷ []) unit) (length-new h e) ∙ content-new job h e unit

pub content-unwritten : (job : Job) (h : List Ended) (e : Ended) (unit : ℕ) → (is_done e.outcome && writes_to (operation_of job h e) unit) ≡ false → content job (h ++ e ∷ []) unit (length (h ++ e ∷ [])) ≡ content job h unit (length h)
content-unwritten job h e unit unwritten = content-at_new job h e unit ∙ ap (λ b. written b (operation_of job h e) (content job h unit (length h))) unwritten

overlaid-none : (w : Option (List ℕ)) (offset len : ℕ) (x : List ℕ) → is_some w ≡ false → overlaid w offset len x ≡ x
overlaid-none None offset len x e = refl
overlaid-none (Some p) offset len x e = cc

pub written-some : (op : UnitOp) (x : List ℕ) (b : Bool) → is_some op.write ≡ b → written b op x ≡ overlaid op.write op.offset op.len x
written-some op x true e = refl
written-some op x false e = sym (overlaid-none op.write op.offset op.len x e)

-- a device that holds the contents after the history holds those after the operation too
device-at : (op : UnitOp) (contents : List (List ℕ)) (unit : ℕ) (x : List ℕ) (t : Bool) → op.unit.0 < length contents → (op.unit.0 == unit) ≡ t → unit_content contents unit ≡ x → unit_content (after_operation op contents) unit ≡ written (is_some op.write && t) op x
device-at op contents unit x true lt same is =
    let e : op.unit.0 ≡ unit = eqb-true op.unit.0 unit same in
    let there : is_some op.write && true ≡ is_some op.write = elim (is_some op.write) as (λ b. (b && true) ≡ b) [ true ↦ refl | false ↦ refl ] in
    rw (← e, get_or-set_same contents op.unit.0 (overlaid op.write op.offset op.len (unit_content contents op.unit.0)) [] lt)
    (ap (overlaid op.write op.offset op.len) (ap (unit_content contents) e ∙ is) ∙ sym (written-some op x (is_some op.write && true) (sym there)))
device-at op contents unit x false lt other is =
    let there : (is_some op.write && false) ≡ false = and_right (is_some op.write) false refl in
    get_or-set_other contents op.unit.0 unit (overlaid op.write op.offset op.len (unit_content contents op.unit.0)) [] (λ e. eqb-false op.unit.0 unit other (sym e))
    ∙ is ∙ sym (ap (λ b. written b op x) there)

pub device-after : (job : Job) (h : List Ended) (e : Ended) (op : UnitOp) (contents : List (List ℕ)) (unit : ℕ) → is_done e.outcome ≡ true → op ≡ operation_of job h e → op.unit.0 < length contents → unit_content contents unit ≡ content job h unit (length h) → unit_content (after_operation op contents) unit ≡ content job (h ++ e ∷ []) unit (length (h ++ e ∷ []))
device-after job h e op contents unit done is lt same =
    device-at op contents unit (content job h unit (length h)) (op.unit.0 == unit) lt refl same
    ∙ rw (is) (sym (content-at_new job h e unit ∙ ap (λ b. written (b && writes_to (operation_of job h e) unit) (operation_of job h e) (content job h unit (length h))) done))

pub reads-after : (job : Job) (h : List Ended) (e : Ended) (op : UnitOp) (contents : List (List ℕ)) → is_done e.outcome ≡ true → op ≡ operation_of job h e → unit_content contents op.unit.0 ≡ content job h op.unit.0 (length h) → reads job (h ++ e ∷ []) (length (h ++ e ∷ [])) ≡ reads job h (length h) ++ read_of op contents
reads-after job h e op contents done is same =
    ap (reads job (h ++ e ∷ [])) (length-new h e) ∙ reads-new job h e
    ∙ ap (λ b. reads job h (length h) ++ (if b && is_none (operation_of job h e).write then part (operation_of job h e) (content job h (operation_of job h e).unit.0 (length h)) else [])) done
    ∙ rw (← is) (ap (λ x. reads job h (length h) ++ (if is_none op.write then part op x else [])) (sym same))

pub reads-faulted : (job : Job) (h : List Ended) (e : Ended) → is_done e.outcome ≡ false → reads job (h ++ e ∷ []) (length (h ++ e ∷ [])) ≡ reads job h (length h)
reads-faulted job h e not_done =
    ap (reads job (h ++ e ∷ [])) (length-new h e) ∙ reads-new job h e
    ∙ ap (λ b. reads job h (length h) ++ (if b && is_none (operation_of job h e).write then part (operation_of job h e) (content job h (operation_of job h e).unit.0 (length h)) else [])) not_done
    ∙ append-nil (reads job h (length h))

-- a write makes no read
pub read_of-write : (op : UnitOp) (contents : List (List ℕ)) (reads : List ℕ) → is_some op.write ≡ true → reads ++ read_of op contents ≡ reads
read_of-write op contents reads writes = rw (none-some op.write writes) (append-nil reads)
  where
    none-some : (w : Option (List ℕ)) → is_some w ≡ true → is_none w ≡ false
    none-some None e = cc
    none-some (Some p) e = refl

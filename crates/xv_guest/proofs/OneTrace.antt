-- One guest, whose unit operations have ended.
use Rattle.std.proofs.Common.{◌≡◌, ℕ, zero, suc, ◌<◌, ◌≤◌, ◌==◌, List, [], ◌∷◌, length, get_or, Result, Ok, IfOk, ap, subst, arith}
use Rattle.std.proofs.lemmas.List.Sums.{count_by-le-length}
use Rattle.xv_base.specs.Units.{Shape}
use Rattle.xv_base.specs.declared.operation.Ended.{Ended}
use Rattle.xv_base.specs.declared.text.TextError.{TextError}
use Rattle.xv_trace.specs.declared.op.Op.{Op}
use Rattle.xv_trace.specs.Operations.{all_unit_operations, count_all, no_unit_op}
use Rattle.xv_trace.specs.OpText.{Program, IsProgram}
use Rattle.xv_trace.proofs.Counts.{length-all_unit_operations}
use Rattle.xv_trace.proofs.Units.{act_within_units}
use Rattle.xv_guest.specs.Log.{ended}
use Rattle.xv_guest.specs.Plain.{guest_ops, LiesIn}

pub all_ended : (program : Program) (entries : List Ended) (most : ℕ) → length entries ≤ most → most ≤ count_all program.ops → ((guest : ℕ) → 0 < guest → ended entries guest ≡ 0)
    → (guest : ℕ) → ended entries guest ≤ length (guest_ops (program ∷ []) guest)
all_ended program entries most few there others zero =
    omega (arith, count_by-le-length (λ e. e.guest.0 == 0) entries, length-all_unit_operations program.shape program.ops)
all_ended program entries most few there others (suc guest) = omega (arith, others (suc guest) (omega arith))

pub all_within : (shape : Shape) (program : Program) → program.shape ≡ shape → IsProgram program
    → (guest k : ℕ) → k < length (guest_ops (program ∷ []) guest) → LiesIn shape (get_or (guest_ops (program ∷ []) guest) k no_unit_op)
all_within shape program same is zero k lt =
    let P : Shape → Type 0 = λ s. LiesIn s (get_or (all_unit_operations program.shape program.ops) k no_unit_op) in
    let w = act_within_units program is k (omega (arith, length-all_unit_operations program.shape program.ops)) in
    subst P same (record { unit_is = w.unit_is; in_unit = w.in_unit })
all_within shape program same is (suc guest) k lt = absurd (omega arith)

-- operations that were read are on the units that they were read for
pub shape_read : (r : Result Program TextError) (program : Program) (shape : Shape) (ops : List Op) → r ≡ Ok program → IfOk r (λ found. found ≡ record { shape = shape; ops = ops }) → program.shape ≡ shape
shape_read r program shape ops e h =
    let P : Result Program TextError → Type 0 = λ x. IfOk x (λ found. found ≡ record { shape = shape; ops = ops }) in
    ap (λ (p : Program). p.shape) (subst P e h)

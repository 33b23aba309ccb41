-- The traces of a job: how many unit operations they have, and which.
use Rattle.std.proofs.Common.{◌≡◌, ℕ, zero, suc, ◌+◌, ◌^◌, ◌<◌, ◌≤◌, List, [], ◌∷◌, length, take, get_or, sum_by, refl, sym, ap, ◌∙◌, arith, inl, inr}
use Rattle.std.proofs.lemmas.Bool.{cases_lt}
use Rattle.std.proofs.lemmas.List.{length-map}
use Rattle.std.proofs.lemmas.List.Sums.{sum_by-cons}
use Rattle.xv_base.specs.Units.{Shape}
use Rattle.xv_base.specs.declared.pattern.UnitOp.{UnitOp}
use Rattle.xv_trace.specs.declared.op.Op.{Op}
use Rattle.xv_trace.specs.Operations.{count_all, all_unit_operations, no_unit_op}
use Rattle.xv_trace.specs.OpText.{Program}
use Rattle.xv_trace.proofs.Counts.{length-all_unit_operations}
use Rattle.xv_job.specs.Written.{Written, IsGoodWritten, AreTraces, job_of, ops_held}
use Rattle.xv_model.specs.Job.{guest_count, operation_count, operation, trace}
use Rattle.xv_job.proofs.Legal.{traces_counted}
use Rattle.xv_job.proofs.Backward.{trace_is}

-- the unit operations of the first traces
abbrev pub count_first : ℕ → List Program → ℕ
count_first n ts = sum_by (λ t. count_all t.ops) (take n ts)

pub count_more : (ts : List Program) (n : ℕ) (d : Program) → n < length ts → count_first (n + 1) ts ≡ count_first n ts + count_all (get_or ts n d).ops
count_more [] n d h = absurd (omega arith)
count_more (t ∷ ts) zero d h = omega (arith, sum_by-cons (λ (t : Program). count_all t.ops) t [])
count_more (t ∷ ts) (suc n) d h =
    let e : suc n + 1 ≡ suc (n + 1) = omega arith in
    rw e (omega (arith, sum_by-cons (λ (t : Program). count_all t.ops) t (take (n + 1) ts), sum_by-cons (λ (t : Program). count_all t.ops) t (take n ts), count_more ts n d (omega arith)))

count_below : (ts : List Program) (n : ℕ) → count_first n ts ≤ sum_by count_all (ops_held ts)
count_below ts zero = omega arith
count_below [] (suc n) = omega arith
count_below (t ∷ ts) (suc n) = omega (arith, sum_by-cons (λ (t : Program). count_all t.ops) t (take n ts), sum_by-cons count_all t.ops (ops_held ts), count_below ts n)

count_whole : (ts : List Program) → count_first (length ts) ts ≡ sum_by count_all (ops_held ts)
count_whole [] = refl
count_whole (t ∷ ts) = omega (arith, sum_by-cons (λ (t : Program). count_all t.ops) t (take (length ts) ts), sum_by-cons count_all t.ops (ops_held ts), count_whole ts)

pub count_fits : (w : Written) (ts : List Program) (n : ℕ) (d : Program) → w.traces ≡ ops_held ts → IsGoodWritten w → n < length ts → count_first n ts + count_all (get_or ts n d).ops ≤ 2 ^ 20
count_fits w ts n d e g h =
    let all : operation_count (job_of w) ≡ sum_by count_all w.traces = traces_counted w.shape w.traces in
    let same : sum_by count_all w.traces ≡ sum_by count_all (ops_held ts) = ap (sum_by count_all) e in
    omega (arith, count_more ts n d h, count_below ts (n + 1), all, same, g.limits.operations)

pub count_is : (w : Written) (ts : List Program) (n : ℕ) → w.traces ≡ ops_held ts → n ≡ length ts → count_first n ts ≡ operation_count (job_of w)
count_is w ts n e h =
    ap (λ (k : ℕ). count_first k ts) h ∙ count_whole ts ∙ ap (sum_by count_all) (sym e) ∙ sym (traces_counted w.shape w.traces)

-- a unit operation of a guest
held_at : (ts : List Program) (guest : ℕ) (d : Program) → guest < length ts → get_or (ops_held ts) guest [] ≡ (get_or ts guest d).ops
held_at [] guest d h = absurd (omega arith)
held_at (t ∷ ts) zero d h = refl
held_at (t ∷ ts) (suc guest) d h = held_at ts guest d (omega arith)

shape_at : (shape : Shape) (ts : List Program) (guest : ℕ) (d : Program) → AreTraces shape ts → guest < length ts → (get_or ts guest d).shape ≡ shape
shape_at shape [] guest d a h = absurd (omega arith)
shape_at shape (t ∷ ts) zero d a h = a.0
shape_at shape (t ∷ ts) (suc guest) d a h = shape_at shape ts guest d a.1 (omega arith)

none_behind : (ts : List Program) (guest : ℕ) → length ts ≤ guest → get_or (ops_held ts) guest [] ≡ []
none_behind [] guest h = refl
none_behind (t ∷ ts) zero h = absurd (omega arith)
none_behind (t ∷ ts) (suc guest) h = none_behind ts guest (omega arith)

trace_of : (w : Written) (ts : List Program) (guest : ℕ) → w.traces ≡ ops_held ts → trace (job_of w) guest ≡ all_unit_operations w.shape (get_or (ops_held ts) guest [])
trace_of w ts guest e = trace_is w.shape w.traces guest ∙ ap (λ traces. all_unit_operations w.shape (get_or traces guest [])) e

pub guest_in : (w : Written) (ts : List Program) (guest k : ℕ) → w.traces ≡ ops_held ts → k < length (trace (job_of w) guest) → guest < length ts
guest_in w ts guest k e h = elim (cases_lt guest (length ts)) [
  | inl lt ↦ lt
  | inr past ↦
      let none : trace (job_of w) guest ≡ [] = trace_of w ts guest e ∙ ap (all_unit_operations w.shape) (none_behind ts guest past) in
      absurd (omega (arith, ap length none))
]

trace_at : (w : Written) (ts : List Program) (guest : ℕ) (t : Program) → w.traces ≡ ops_held ts → AreTraces w.shape ts → guest < length ts → t ≡ get_or ts guest t → trace (job_of w) guest ≡ all_unit_operations t.shape t.ops
trace_at w ts guest t e a h is =
    trace_of w ts guest e
    ∙ ap (all_unit_operations w.shape) (held_at ts guest t h ∙ ap (λ (p : Program). p.ops) (sym is))
    ∙ ap (λ (s : Shape). all_unit_operations s t.ops) (sym (ap (λ (p : Program). p.shape) is ∙ shape_at w.shape ts guest t a h))

pub unit_op_in : (w : Written) (ts : List Program) (guest k : ℕ) (t : Program) → w.traces ≡ ops_held ts → AreTraces w.shape ts → guest < length ts → t ≡ get_or ts guest t → k < length (trace (job_of w) guest) → k < count_all t.ops
unit_op_in w ts guest k t e a h is lt = omega (arith, ap length (trace_at w ts guest t e a h is), length-all_unit_operations t.shape t.ops)

pub unit_op_is : (w : Written) (ts : List Program) (guest k : ℕ) (t : Program) (op : UnitOp) → w.traces ≡ ops_held ts → AreTraces w.shape ts → guest < length ts → t ≡ get_or ts guest t → op ≡ get_or (all_unit_operations t.shape t.ops) k no_unit_op → op ≡ operation (job_of w) guest k
unit_op_is w ts guest k t op e a h is o = o ∙ ap (λ (us : List UnitOp). get_or us k no_unit_op) (sym (trace_at w ts guest t e a h is))

-- how many guests there are, and how many unit operations one of them has
pub guests_held : (w : Written) (ts : List Program) → w.traces ≡ ops_held ts → guest_count (job_of w) ≡ length ts
guests_held w ts e = length-map w.traces (all_unit_operations w.shape) ∙ ap (λ (xs : List (List Op)). length xs) e ∙ length-map ts (λ (t : Program). t.ops)

pub operations_counted : (w : Written) (ts : List Program) (guest : ℕ) (t : Program) → w.traces ≡ ops_held ts → guest < length ts → t ≡ get_or ts guest t → count_all t.ops ≡ length (trace (job_of w) guest)
operations_counted w ts guest t e there is =
    let held : t.ops ≡ get_or w.traces guest [] = ap (λ (p : Program). p.ops) is ∙ sym (held_at ts guest t there) ∙ ap (λ (xs : List (List Op)). get_or xs guest []) (sym e) in
    ap count_all held ∙ length-all_unit_operations w.shape (get_or w.traces guest []) ∙ ap (λ xs. length xs) (sym (trace_is w.shape w.traces guest))

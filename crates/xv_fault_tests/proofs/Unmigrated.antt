-- A job's traces have the unit operations that its unmigrated guest is run by.
use Rattle.std.specs.Prelude.{map}
use Rattle.std.proofs.Common.{◌≡◌, ℕ, ◌<◌, ◌≤◌, List, [], ◌∷◌, length, get_or, refl, sym, ap, ◌∙◌, subst, arith}
use Rattle.xv_base.specs.Units.{Shape}
use Rattle.xv_base.specs.declared.operation.Ended.{Ended}
use Rattle.xv_base.specs.declared.pattern.UnitOp.{UnitOp}
use Rattle.xv_trace.specs.Operations.{all_unit_operations, no_unit_op}
use Rattle.xv_trace.specs.OpText.{Program}
use Rattle.xv_model.specs.Job.{IsGoodJob, trace}
use Rattle.xv_model.specs.Guest.{ended}
use Rattle.xv_job.specs.Written.{Written, job_of, ops_held, AreTraces}
use Rattle.xv_guest.specs.Plain.{unit_ops, guest_ops, LiesIn}

-- the unit operations of traces that all act on these units
same-traces : (shape : Shape) (ts : List Program) → AreTraces shape ts → map (all_unit_operations shape) (ops_held ts) ≡ map unit_ops ts
same-traces shape [] a = refl
same-traces shape (t ∷ ts) a =
    ap (λ (s : Shape). all_unit_operations s t.ops ∷ map (all_unit_operations shape) (ops_held ts)) (sym a.0)
    ∙ ap (λ (rest : List (List UnitOp)). unit_ops t ∷ rest) (same-traces shape ts a.1)

-- a job that is written of these traces
module _ (w : Written) (ts : List Program) (held : w.traces ≡ ops_held ts) (each : AreTraces w.shape ts) where
  traces-are : (job_of w).traces ≡ map unit_ops ts
  traces-are = ap (map (all_unit_operations w.shape)) held ∙ same-traces w.shape ts each

  -- a guest's unit operations are no fewer than have ended, and lie in their units
  guest-is : (guest : ℕ) → trace (job_of w) guest ≡ guest_ops ts guest
  guest-is guest = ap (λ (traces : List (List UnitOp)). get_or traces guest []) traces-are

  pub no-more-ended : (history : List Ended) (guest : ℕ) → ended history guest ≤ length (trace (job_of w) guest) → ended history guest ≤ length (guest_ops ts guest)
  no-more-ended history guest few = omega (arith, few, ap (λ (ops : List UnitOp). length ops) (guest-is guest))

  pub each-lies : (shape : Shape) (guest k : ℕ) → w.shape ≡ shape → IsGoodJob (job_of w) → k < length (guest_ops ts guest) → LiesIn shape (get_or (guest_ops ts guest) k no_unit_op)
  each-lies shape guest k same good lt =
      let legal = good.legal guest k (omega (arith, lt, ap (λ (ops : List UnitOp). length ops) (guest-is guest))) in
      let here : LiesIn w.shape (get_or (trace (job_of w) guest) k no_unit_op) = record { unit_is = legal.unit_is; in_unit = legal.in_unit } in
      subst (λ (s : Shape). LiesIn s (get_or (guest_ops ts guest) k no_unit_op)) same
      (subst (λ (ops : List UnitOp). LiesIn w.shape (get_or ops k no_unit_op)) (guest-is guest) here)

use Rattle.std.proofs.Common.{◌≡◌, ◌∙◌, ap, sym, subst, arith}
use Rattle.xv_trace.specs.Operations.{count_all}
use Rattle.xv_trace.specs.OpText.{Program}
use Rattle.xv_job.specs.Written.{Written, IsGoodWritten, ops_held}
use Rattle.xv_job.proofs.Counted.{count_fits, count_is}
use Rattle.xv_job.proofs.job.Job.operations.Goals as goal

pub overflow_add-count : goal.overflow_add-count
overflow_add-count c =
    let e : c.args.self.now.traces ≡ ops_held c.deref-trace-items.result.now = ap (λ (w : Written). w.traces) (sym c.self.view_is) ∙ ap ops_held (sym c.deref-trace-items.ensures.value) in
    let P : Written → Type 0 = λ w. IsGoodWritten w in
    let fits = count_fits c.args.self.now c.deref-trace-items.result.now c.loop-trace.trace-index c.trace-item.result e (subst P c.self.view_is c.self.invariant.0) (omega arith) in
    let same = ap (λ (p : Program). count_all p.ops) c.trace-item.is in
    omega (arith, fits, same, c.loop-trace.invariant, c.unit_ops-count.ensures.exactly)

pub returns-clause-exactly : goal.returns-clause-exactly
returns-clause-exactly c =
    let e : c.args.self.now.traces ≡ ops_held c.deref-trace-items.result.now = ap (λ (w : Written). w.traces) (sym c.self.view_is) ∙ ap ops_held (sym c.deref-trace-items.ensures.value) in
    c.loop-trace.invariant ∙ count_is c.args.self.now c.deref-trace-items.result.now c.loop-trace.trace-index e (omega arith)

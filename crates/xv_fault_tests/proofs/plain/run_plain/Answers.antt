use Rattle.std.proofs.Common.{◌≡◌, ◌∙◌, ap, sym, subst}
use Rattle.xv_base.specs.Units.{Shape}
use Rattle.xv_job.specs.Written.{Written, AreTraces, ops_held}
use Rattle.xv_fault_tests.proofs.Unmigrated.{no-more-ended, each-lies}
use Rattle.xv_fault_tests.proofs.plain.run_plain.Goals as goal

pub run-requires-clause-ended : goal.run-requires-clause-ended
run-requires-clause-ended c = λ guest.
    let w = c.args.job.now in
    let ts = c.deref-2.result.now in
    let held : w.traces ≡ ops_held ts = ap (λ (x : Written). x.traces) (sym c.job.view_is) ∙ ap ops_held (sym c.deref-2.ensures.value) in
    let shaped : AreTraces w.shape c.job.inside.traces.items = subst (λ (s : Shape). AreTraces s c.job.inside.traces.items) (ap (λ (x : Written). x.shape) c.job.view_is) c.job.invariant.1 in
    let each : AreTraces w.shape ts = subst (AreTraces w.shape) (sym c.deref-2.ensures.value) shaped in
    no-more-ended w ts held each c.args.history.now.entries guest (c.requires guest)

pub run-requires-clause-within : goal.run-requires-clause-within
run-requires-clause-within c = λ guest k lt.
    let w = c.args.job.now in
    let ts = c.deref-2.result.now in
    let held : w.traces ≡ ops_held ts = ap (λ (x : Written). x.traces) (sym c.job.view_is) ∙ ap ops_held (sym c.deref-2.ensures.value) in
    let shaped : AreTraces w.shape c.job.inside.traces.items = subst (λ (s : Shape). AreTraces s c.job.inside.traces.items) (ap (λ (x : Written). x.shape) c.job.view_is) c.job.invariant.1 in
    let each : AreTraces w.shape ts = subst (AreTraces w.shape) (sym c.deref-2.ensures.value) shaped in
    each-lies w ts held each c.job.inside.layout guest k (ap (λ (x : Written). x.shape) (sym c.job.view_is)) c.operations.ensures.good.limits lt

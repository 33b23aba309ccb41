use Rattle.std.proofs.Common.{◌≡◌, ap, sym, subst}
use Rattle.xv_job.specs.Written.{Written, AreTraces, ops_held}
use Rattle.xv_base.specs.Units.{Shape}
use Rattle.xv_job.proofs.Counted.{guest_in, unit_op_in, unit_op_is}
use Rattle.xv_job.proofs.job.Job.unit_op.Goals as goal

pub unit_op-requires : goal.unit_op-requires
unit_op-requires c =
    let e : c.args.self.now.traces ≡ ops_held c.self.inside.traces.items = ap (λ (w : Written). w.traces) (sym c.self.view_is) in
    let P : Shape → Type 0 = λ s. AreTraces s c.self.inside.traces.items in
    let a = subst P (ap (λ (w : Written). w.shape) c.self.view_is) c.self.invariant.1 in
    unit_op_in c.args.self.now c.self.inside.traces.items c.args.guest.0 c.args.k c.index-trace.result.now e a (guest_in c.args.self.now c.self.inside.traces.items c.args.guest.0 c.args.k e c.requires) c.index-trace.ensures c.requires

pub returns-clause-exactly : goal.returns-clause-exactly
returns-clause-exactly c =
    let e : c.args.self.now.traces ≡ ops_held c.self.inside.traces.items = ap (λ (w : Written). w.traces) (sym c.self.view_is) in
    let P : Shape → Type 0 = λ s. AreTraces s c.self.inside.traces.items in
    let a = subst P (ap (λ (w : Written). w.shape) c.self.view_is) c.self.invariant.1 in
    unit_op_is c.args.self.now c.self.inside.traces.items c.args.guest.0 c.args.k c.index-trace.result.now c.unit_op.result e a (guest_in c.args.self.now c.self.inside.traces.items c.args.guest.0 c.args.k e c.requires) c.index-trace.ensures c.unit_op.ensures

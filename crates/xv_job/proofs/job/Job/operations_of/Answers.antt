use Rattle.std.proofs.Common.{◌≡◌, ◌∙◌, ap, sym, arith}
use Rattle.xv_job.specs.Written.{Written, ops_held}
use Rattle.xv_job.proofs.Counted.{guests_held, operations_counted}
use Rattle.xv_job.proofs.job.Job.operations_of.Goals as goal

pub returns : goal.returns
returns c =
    let held : c.args.self.now.traces ≡ ops_held c.self.inside.traces.items = ap (λ (w : Written). w.traces) (sym c.self.view_is) in
    c.unit_ops.ensures.exactly ∙ operations_counted c.args.self.now c.self.inside.traces.items c.args.guest.0 c.index.result.now held (omega (arith, guests_held c.args.self.now c.self.inside.traces.items held, c.requires)) c.index.ensures

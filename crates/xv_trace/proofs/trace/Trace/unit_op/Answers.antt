use Rattle.std.proofs.Common.{◌∙◌, ◌<◌, ap, get_or, subst, sym}
use Rattle.xv_trace.specs.Operations.{all_unit_operations, count_all, no_unit_op}
use Rattle.xv_trace.specs.OpText.{Program}
use Rattle.xv_trace.proofs.Keeps.{unit_op_found}
use Rattle.xv_trace.proofs.trace.Trace.unit_op.Goals as goal

pub returns : goal.returns
returns c =
    let found = c.last_at_most-i.ensures in
    let within = subst (λ (p : Program). c.args.k < count_all p.ops) (sym c.self.view_is) c.requires in
    c.part.ensures
    ∙ unit_op_found c.self.inside.layout c.self.inside.ops.items c.self.inside.firsts.items c.deref.result.now c.self.inside.count c.args.k c.last_at_most-i.result
    c.index.result.now c.index-2.result.now c.self.invariant within c.deref.ensures.value found.below found.here found.next c.index.ensures c.index-2.ensures
    ∙ ap (λ (p : Program). get_or (all_unit_operations p.shape p.ops) c.args.k no_unit_op) c.self.view_is

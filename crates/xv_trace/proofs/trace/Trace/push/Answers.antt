use Rattle.std.proofs.Common.{◌+◌, ◌≤◌, ◌^◌, subst, sym}
use Rattle.xv_trace.specs.Operations.{count_all, op_count}
use Rattle.xv_trace.specs.OpText.{Program, IsGoodOp}
use Rattle.xv_trace.proofs.Keeps.{kept_push}
use Rattle.xv_trace.proofs.trace.Trace.push.Goals as goal

pub invariant_of-self-in-Ok-push : goal.invariant_of-self-in-Ok-push
invariant_of-self-in-Ok-push c =
    let good = subst (λ (p : Program). IsGoodOp p.shape c.args.op) (sym c.self.view_is) c.requires.good in
    let room = subst (λ (p : Program). count_all p.ops + op_count c.args.op ≤ 2 ^ 20) (sym c.self.view_is) c.requires.room in
    rw (c.in-Ok-push.ensures.items, c.in-Ok.ensures.items, c.count.ensures)
    (kept_push c.self.inside.layout c.self.inside.ops.items c.args.op c.self.inside.firsts.items c.self.inside.count c.self.invariant good room)

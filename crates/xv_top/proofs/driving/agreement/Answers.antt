use Rattle.std.proofs.Common.{◌∙◌}
use Rattle.xv_core.specs.Seen.{view_of}
use Rattle.xv_top.proofs.Agreeing.{agree-all, unmigrated-as}
use Rattle.xv_top.proofs.driving.agreement.Goals as goal

pub returns : goal.returns
returns c =
    let m = c.args.machine.now in
    let plain = c.in_ok-plain.plain in
    c.agreeing.ensures
    ∙ agree-all m c.owner.result.now plain c.owner.ensures.shape c.owner.ensures.guests
    (unmigrated-as c.job.result.now m.job c.history.result.now.entries (view_of m).history plain c.job.ensures c.history.ensures c.in_ok-plain.ensures.unmigrated)

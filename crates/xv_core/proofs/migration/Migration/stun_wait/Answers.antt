use Rattle.xv_core.specs.State.{state_of}
use Rattle.xv_core.proofs.CopyingEvents.SourceWaits.{stun-waits}
use Rattle.xv_core.proofs.migration.Migration.stun_wait.Goals as goal

pub returns : goal.returns
returns g c =
    let h = c.self.inside in
    let s = state_of h.job h.journal.items h.history.entries h.phase h.stun h.source h.dest h.streams h.back h.reads.items in
    stun-waits s _ c.len.result c.may_go_beside.result c.waits.result c.self.invariant.0 c.self.view_is c.if-not-is_running.ensures c.len.ensures.exactly c.if-is_before_cancel.ensures c.may_go_beside.ensures c.waits.ensures.exactly

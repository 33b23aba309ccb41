use Rattle.xv_core.specs.State.{state_of}
use Rattle.xv_core.proofs.CopyingEvents.SourceWaits.{copy-not-now, copy-of-source, copy-waits, seen-waits}
use Rattle.xv_core.proofs.migration.Migration.copy_wait.Goals as goal

pub returns-then-not-is_asked : goal.returns-then-not-is_asked
returns-then-not-is_asked g c =
    let h = c.self.inside in
    let s = state_of h.job h.journal.items h.history.entries h.phase h.stun h.source h.dest h.streams h.back h.reads.items in
    seen-waits s _ c.args.event _ c.self.view_is (copy-not-now s c.args.event c.self.invariant.0 c.requires.of_copy c.if-not-is_asked.ensures)

pub waits-requires : goal.waits-requires
waits-requires g c =
    let h = c.self.inside in
    let s = state_of h.job h.journal.items h.history.entries h.phase h.stun h.source h.dest h.streams h.back h.reads.items in
    copy-of-source s _ c.args.event c.self.invariant.0 c.self.view_is c.requires.of_copy c.requires.fitting

pub returns : goal.returns
returns g c =
    let h = c.self.inside in
    let s = state_of h.job h.journal.items h.history.entries h.phase h.stun h.source h.dest h.streams h.back h.reads.items in
    copy-waits s _ c.args.event c.may_go_beside.result c.waits.result c.self.invariant.0 c.self.view_is c.requires.of_copy c.if-not-is_asked.ensures c.may_go_beside.ensures c.waits.ensures.exactly

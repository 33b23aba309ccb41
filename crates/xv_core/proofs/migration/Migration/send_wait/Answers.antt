use Rattle.std.proofs.Common.{◌==◌, refl, sym, ◌∙◌}
use Rattle.xv_core.specs.State.{state_of}
use Rattle.xv_core.proofs.MovingEvents.Waits.{send-waits}
use Rattle.xv_core.proofs.migration.Migration.send_wait.Goals as goal

pub returns : goal.returns
returns g c =
    let h = c.self.inside in
    let s = state_of h.job h.journal.items h.history.entries h.phase h.stun h.source h.dest h.streams h.back h.reads.items in
    send-waits s _ c.args.stream (h.job.format == 2) c.waits.result c.self.invariant.0 c.self.view_is (rw (← c.self-inside.view_is) (sym c.is_live.ensures ∙ c.if-not-is_live.false)) refl
    (rw (← c.self-inside.view_is) c.waits.ensures.exactly)

use Rattle.std.proofs.Common.{true, false, sym, ◌∙◌}
use Rattle.xv_core.specs.State.{state_of}
use Rattle.xv_core.proofs.MovingEvents.Waits.{switch-waits, may-switch-is}
use Rattle.xv_core.proofs.migration.Migration.switch_wait.Goals as goal

pub returns-then-not-may_switch : goal.returns-then-not-may_switch
returns-then-not-may_switch g c =
    let h = c.self.inside in
    let s = state_of h.job h.journal.items h.history.entries h.phase h.stun h.source h.dest h.streams h.back h.reads.items in
    switch-waits s _ true false false c.self.invariant.0 c.self.view_is
    (rw (← c.self-inside.view_is) (sym c.is_stunned.ensures ∙ c.if-not-is_stunned.false)) (rw (← c.self-inside.view_is) (sym c.is_some.ensures ∙ c.if-is_some.false))
    (rw (← c.self-inside.view_is) (may-switch-is _ _ _ c.if-not-may_switch.true c.may_switch.ensures))

pub returns : goal.returns
returns g c =
    let h = c.self.inside in
    let s = state_of h.job h.journal.items h.history.entries h.phase h.stun h.source h.dest h.streams h.back h.reads.items in
    switch-waits s _ true false true c.self.invariant.0 c.self.view_is
    (rw (← c.self-inside.view_is) (sym c.is_stunned.ensures ∙ c.if-not-is_stunned.false)) (rw (← c.self-inside.view_is) (sym c.is_some.ensures ∙ c.if-is_some.false))
    (rw (← c.self-inside.view_is) (may-switch-is _ _ _ c.if-not-may_switch.false c.may_switch.ensures))

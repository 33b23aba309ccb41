use Rattle.std.proofs.Common.{Some, refl, ap}
use Rattle.xv_base.specs.declared.event.Event.TheVariants.{Stun}
use Rattle.xv_model.specs.Step.{is_wait}
use Rattle.xv_core.specs.State.{state_of}
use Rattle.xv_core.proofs.CopyingEvents.SourceEvents.{stun-of}
use Rattle.xv_core.proofs.CopyingEvents.SourceSettled.{room-for, stays-waiting, steps-waiting, stays-stopped, steps-stopped, rooms-stay, no-wait}
use Rattle.xv_core.proofs.CopyingEvents.SourceWaits.{stun-not-now, stun-too-early, waits-as}
use Rattle.xv_core.proofs.migration.Migration.stun.Goals as goal

pub returns-then-not-is_running : goal.returns-then-not-is_running
returns-then-not-is_running g c =
    let h = c.self.inside in
    let s = state_of h.job h.journal.items h.history.entries h.phase h.stun h.source h.dest h.streams h.back h.reads.items in
    waits-as s _ Stun _ c.self.view_is (stun-not-now s c.self.invariant.0 c.if-not-is_running.ensures)

pub returns-then-is_before_cancel : goal.returns-then-is_before_cancel
returns-then-is_before_cancel g c =
    let h = c.self.inside in
    let s = state_of h.job h.journal.items h.history.entries h.phase h.stun h.source h.dest h.streams h.back h.reads.items in
    waits-as s _ Stun _ c.self.view_is (stun-too-early s c.len-length.result c.self.invariant.0 c.if-not-is_running.ensures c.len-length.ensures.exactly c.if-is_before_cancel.ensures)

pub invariant_of-self : goal.invariant_of-self
invariant_of-self g c =
    let h = c.self.inside in
    let s = state_of h.job h.journal.items h.history.entries h.phase h.stun h.source h.dest h.streams h.back h.reads.items in
    let of = stun-of s c.len-length.result c.stun-turn.result c.stun-turn.new.self c.self.invariant.0 c.if-not-is_running.ensures c.len-length.ensures.exactly c.if-is_before_cancel.ensures c.stun-turn.ensures.step c.stun-turn.ensures.call in
    (stays-waiting s _ c.stun-turn.result c.stun-turn.new.self _ _ c.self.invariant.0 of (ap is_wait c.in-Wait.is), c.self.invariant.1)

pub returns-in-Wait : goal.returns-in-Wait
returns-in-Wait g c =
    let h = c.self.inside in
    let s = state_of h.job h.journal.items h.history.entries h.phase h.stun h.source h.dest h.streams h.back h.reads.items in
    let of = stun-of s c.len-length.result c.stun-turn.result c.stun-turn.new.self c.self.invariant.0 c.if-not-is_running.ensures c.len-length.ensures.exactly c.if-is_before_cancel.ensures c.stun-turn.ensures.step c.stun-turn.ensures.call in
    steps-waiting s _ _ c.stun-turn.result c.stun-turn.new.self _ _ c.self.view_is of (ap is_wait c.in-Wait.is)

pub settle-requires : goal.settle-requires
settle-requires g c =
    let h = c.self.inside in
    let s = state_of h.job h.journal.items h.history.entries h.phase h.stun h.source h.dest h.streams h.back h.reads.items in
    let of = stun-of s c.len-length.result c.stun-turn.result c.stun-turn.new.self c.self.invariant.0 c.if-not-is_running.ensures c.len-length.ensures.exactly c.if-is_before_cancel.ensures c.stun-turn.ensures.step c.stun-turn.ensures.call in
    record { room = room-for s _ c.stun-turn.result _ _ _ _ c.self.invariant.0 of c.self.invariant.1.journal }

pub invariant_of-self-2 : goal.invariant_of-self-2
invariant_of-self-2 g c =
    let h = c.self.inside in
    let s = state_of h.job h.journal.items h.history.entries h.phase h.stun h.source h.dest h.streams h.back h.reads.items in
    let of = stun-of s c.len-length.result c.stun-turn.result c.stun-turn.new.self c.self.invariant.0 c.if-not-is_running.ensures c.len-length.ensures.exactly c.if-is_before_cancel.ensures c.stun-turn.ensures.step c.stun-turn.ensures.call in
    let e = c.settle.ensures in
    (stays-stopped s _ c.stun-turn.result c.stun-turn.new.self c.self.invariant.0 of (no-wait c.stun-turn.result c.in_default.not-Wait) (record { rest = refl; stun = ap Some c.len-length.ensures.exactly; journal = e.journal; phase = e.phase; going = e.going }), rooms-stay _ _ _ _ _ _ c.self.invariant.1 e.reserved)

pub returns : goal.returns
returns g c =
    let h = c.self.inside in
    let s = state_of h.job h.journal.items h.history.entries h.phase h.stun h.source h.dest h.streams h.back h.reads.items in
    let of = stun-of s c.len-length.result c.stun-turn.result c.stun-turn.new.self c.self.invariant.0 c.if-not-is_running.ensures c.len-length.ensures.exactly c.if-is_before_cancel.ensures c.stun-turn.ensures.step c.stun-turn.ensures.call in
    let t = state_of h.job c.settle.new.journal.items h.history.entries c.settle.new.phase (Some c.len-length.result) c.settle.new.source h.dest h.streams h.back h.reads.items in
    let e = c.settle.ensures in
    steps-stopped s t _ c.stun-turn.result c.settle.result c.stun-turn.new.self c.self.invariant.0 c.self.view_is e.answer of (no-wait c.stun-turn.result c.in_default.not-Wait) (record { rest = refl; stun = ap Some c.len-length.ensures.exactly; journal = e.journal; phase = e.phase; going = e.going })

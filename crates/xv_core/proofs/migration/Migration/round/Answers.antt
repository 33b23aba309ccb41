use Rattle.std.proofs.Common.{refl}
use Rattle.xv_base.specs.declared.event.Event.TheVariants.{Round}
use Rattle.xv_core.specs.State.{state_of}
use Rattle.xv_core.proofs.Keeping.Counts.{few-rounds}
use Rattle.xv_core.proofs.CopyingEvents.SourceEvents.{round-of}
use Rattle.xv_core.proofs.CopyingEvents.SourceSettled.{room-for, stays-settled, steps-settled, rooms-stay}
use Rattle.xv_core.proofs.CopyingEvents.SourceWaits.{copy-not-now, waits-as}
use Rattle.xv_core.proofs.migration.Migration.round.Goals as goal

pub round-turn-requires : goal.round-turn-requires
round-turn-requires g c =
    let h = c.self.inside in
    let s = state_of h.job h.journal.items h.history.entries h.phase h.stun h.source h.dest h.streams h.back h.reads.items in
    record { few = few-rounds s c.self.invariant.0.running }

pub returns-then-not-is_running : goal.returns-then-not-is_running
returns-then-not-is_running g c =
    let h = c.self.inside in
    let s = state_of h.job h.journal.items h.history.entries h.phase h.stun h.source h.dest h.streams h.back h.reads.items in
    waits-as s _ Round _ c.self.view_is (copy-not-now s Round c.self.invariant.0 refl c.if-not-is_running.ensures)

pub settle-requires : goal.settle-requires
settle-requires g c =
    let h = c.self.inside in
    let s = state_of h.job h.journal.items h.history.entries h.phase h.stun h.source h.dest h.streams h.back h.reads.items in
    let of = round-of s c.round-turn.result c.round-turn.new.self c.may_go_beside.result c.self.invariant.0 c.if-not-is_running.ensures c.may_go_beside.ensures c.round-turn.ensures.step c.round-turn.ensures.call in
    record { room = room-for s _ c.round-turn.result _ _ _ _ c.self.invariant.0 of c.self.invariant.1.journal }

pub invariant_of-self : goal.invariant_of-self
invariant_of-self g c =
    let h = c.self.inside in
    let s = state_of h.job h.journal.items h.history.entries h.phase h.stun h.source h.dest h.streams h.back h.reads.items in
    let of = round-of s c.round-turn.result c.round-turn.new.self c.may_go_beside.result c.self.invariant.0 c.if-not-is_running.ensures c.may_go_beside.ensures c.round-turn.ensures.step c.round-turn.ensures.call in
    let e = c.settle.ensures in
    (stays-settled s _ _ c.round-turn.result c.round-turn.new.self c.self.invariant.0 of (record { rest = refl; journal = e.journal; phase = e.phase; going = e.going; given_up = e.given_up }), rooms-stay _ _ _ _ _ _ c.self.invariant.1 e.reserved)

pub returns : goal.returns
returns g c =
    let h = c.self.inside in
    let s = state_of h.job h.journal.items h.history.entries h.phase h.stun h.source h.dest h.streams h.back h.reads.items in
    let t = state_of h.job c.settle.new.journal.items h.history.entries c.settle.new.phase h.stun c.settle.new.source h.dest h.streams h.back h.reads.items in
    let of = round-of s c.round-turn.result c.round-turn.new.self c.may_go_beside.result c.self.invariant.0 c.if-not-is_running.ensures c.may_go_beside.ensures c.round-turn.ensures.step c.round-turn.ensures.call in
    let e = c.settle.ensures in
    steps-settled s t _ _ c.round-turn.result c.settle.result c.round-turn.new.self c.self.invariant.0 c.self.view_is e.answer of (record { rest = refl; journal = e.journal; phase = e.phase; going = e.going; given_up = e.given_up })

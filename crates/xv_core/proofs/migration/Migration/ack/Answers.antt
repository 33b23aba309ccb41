use Rattle.std.proofs.Common.{refl, sym, ◌∙◌}
use Rattle.xv_base.specs.declared.event.Event.TheVariants.{Ack}
use Rattle.xv_core.specs.State.{state_of}
use Rattle.xv_core.proofs.Keeping.Calls.{ack-has-room}
use Rattle.xv_core.proofs.Counting.Room.{back-countable}
use Rattle.xv_core.proofs.MovingEvents.ByDest.{after_ack}
use Rattle.xv_core.proofs.MovingEvents.Events.{ack-of, waits-not-live}
use Rattle.xv_core.proofs.MovingEvents.Settled.{room-for, stays-settled, steps-settled, rooms-stay}
use Rattle.xv_core.proofs.migration.Migration.ack.Goals as goal

pub returns-then-not-is_live : goal.returns-then-not-is_live
returns-then-not-is_live g c =
    let h = c.self.inside in
    let s = state_of h.job h.journal.items h.history.entries h.phase h.stun h.source h.dest h.streams h.back h.reads.items in
    waits-not-live s _ Ack c.self.invariant.0 c.self.view_is refl (sym c.is_live.ensures ∙ c.if-not-is_live.true)

pub ack-turn-requires-clause-room : goal.ack-turn-requires-clause-room
ack-turn-requires-clause-room g c =
    let h = c.self.inside in
    let s = state_of h.job h.journal.items h.history.entries h.phase h.stun h.source h.dest h.streams h.back h.reads.items in
    ack-has-room s c.self.invariant.0.running

pub ack-turn-requires-clause-countable : goal.ack-turn-requires-clause-countable
ack-turn-requires-clause-countable g c =
    let h = c.self.inside in
    let s = state_of h.job h.journal.items h.history.entries h.phase h.stun h.source h.dest h.streams h.back h.reads.items in
    back-countable s c.self.invariant.0

pub settle-requires : goal.settle-requires
settle-requires g c =
    let h = c.self.inside in
    let s = state_of h.job h.journal.items h.history.entries h.phase h.stun h.source h.dest h.streams h.back h.reads.items in
    let e = c.ack-turn.ensures in
    let of = ack-of s c.ack-turn.result c.ack-turn.new.self c.ack-turn.new.back c.self.invariant.0 (sym c.is_live.ensures ∙ c.if-not-is_live.false)
    (record { step = e.step; bytes = e.bytes; call = e.call; put = e.put; waits = e.waits; carried = c.waiting.ensures.carried }) in
    record { room = room-for s _ _ c.ack-turn.result _ c.self.invariant.0 of c.self.invariant.1.journal }

pub invariant_of-self : goal.invariant_of-self
invariant_of-self g c =
    let h = c.self.inside in
    let s = state_of h.job h.journal.items h.history.entries h.phase h.stun h.source h.dest h.streams h.back h.reads.items in
    let e = c.ack-turn.ensures in
    let of = ack-of s c.ack-turn.result c.ack-turn.new.self c.ack-turn.new.back c.self.invariant.0 (sym c.is_live.ensures ∙ c.if-not-is_live.false)
    (record { step = e.step; bytes = e.bytes; call = e.call; put = e.put; waits = e.waits; carried = c.waiting.ensures.carried }) in
    let r = c.settle.ensures in (
      stays-settled s (after_ack s c.ack-turn.new.self c.ack-turn.new.back) _ _ c.ack-turn.result c.self.invariant.0 of (record { rest = refl; journal = r.journal; phase = r.phase; going = r.going; given_up = r.given_up }),
      rooms-stay _ _ _ _ _ _ c.self.invariant.1 r.reserved,
    )

pub returns : goal.returns
returns g c =
    let h = c.self.inside in
    let s = state_of h.job h.journal.items h.history.entries h.phase h.stun h.source h.dest h.streams h.back h.reads.items in
    let t = state_of h.job c.settle.new.journal.items h.history.entries c.settle.new.phase h.stun c.settle.new.source c.ack-turn.new.self h.streams c.ack-turn.new.back h.reads.items in
    let e = c.ack-turn.ensures in
    let of = ack-of s c.ack-turn.result c.ack-turn.new.self c.ack-turn.new.back c.self.invariant.0 (sym c.is_live.ensures ∙ c.if-not-is_live.false)
    (record { step = e.step; bytes = e.bytes; call = e.call; put = e.put; waits = e.waits; carried = c.waiting.ensures.carried }) in
    let r = c.settle.ensures in
    steps-settled s (after_ack s c.ack-turn.new.self c.ack-turn.new.back) t _ _ c.ack-turn.result c.settle.result c.self.invariant.0 c.self.view_is r.answer of (record { rest = refl; journal = r.journal; phase = r.phase; going = r.going; given_up = r.given_up })

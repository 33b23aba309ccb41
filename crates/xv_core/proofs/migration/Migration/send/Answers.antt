use Rattle.std.proofs.Common.{refl, sym, ◌∙◌}
use Rattle.xv_base.specs.declared.event.Event.TheVariants.{Send}
use Rattle.xv_core.specs.State.{state_of}
use Rattle.xv_core.proofs.Keeping.Calls.{source-has-room}
use Rattle.xv_core.proofs.MovingEvents.BySource.{after_send}
use Rattle.xv_core.proofs.MovingEvents.Events.{stream-seen, lane-countable, send-of, waits-not-live}
use Rattle.xv_core.proofs.MovingEvents.Settled.{room-for, stays-settled, steps-settled, rooms-stay}
use Rattle.xv_core.proofs.migration.Migration.send.Goals as goal

pub returns-then-not-is_live : goal.returns-then-not-is_live
returns-then-not-is_live g c =
    let h = c.self.inside in
    let s = state_of h.job h.journal.items h.history.entries h.phase h.stun h.source h.dest h.streams h.back h.reads.items in
    waits-not-live s _ (Send c.args.stream) c.self.invariant.0 c.self.view_is refl (sym c.is_live.ensures ∙ c.if-not-is_live.true)

pub send-turn-requires-clause-room : goal.send-turn-requires-clause-room
send-turn-requires-clause-room g c =
    let h = c.self.inside in
    let s = state_of h.job h.journal.items h.history.entries h.phase h.stun h.source h.dest h.streams h.back h.reads.items in
    rw c.group_of-most.ensures (λ _ some. source-has-room s c.args.stream c.self.invariant.0.running (stream-seen s _ c.args.stream c.self.view_is c.requires) some)

pub send-turn-requires-clause-countable : goal.send-turn-requires-clause-countable
send-turn-requires-clause-countable g c =
    let h = c.self.inside in
    let s = state_of h.job h.journal.items h.history.entries h.phase h.stun h.source h.dest h.streams h.back h.reads.items in
    lane-countable s c.args.stream c.self.invariant.0

pub settle-requires : goal.settle-requires
settle-requires g c =
    let h = c.self.inside in
    let s = state_of h.job h.journal.items h.history.entries h.phase h.stun h.source h.dest h.streams h.back h.reads.items in
    let e = c.send-turn.ensures in
    let of = send-of s _ c.args.stream c.group_of-most.result c.send-turn.result c.send-turn.new.self c.send-turn.new.streams c.self.invariant.0 c.self.view_is c.requires (sym c.is_live.ensures ∙ c.if-not-is_live.false) c.group_of-most.ensures
    (record { step = e.step; call = e.call; others = e.others; none_made = e.none_made; put = e.put; waits = e.waits; paired = c.pair_contents.ensures; carried = c.hold_spellings.ensures.lanes }) in
    record { room = room-for s _ _ c.send-turn.result _ c.self.invariant.0 of c.self.invariant.1.journal }

pub invariant_of-self : goal.invariant_of-self
invariant_of-self g c =
    let h = c.self.inside in
    let s = state_of h.job h.journal.items h.history.entries h.phase h.stun h.source h.dest h.streams h.back h.reads.items in
    let e = c.send-turn.ensures in
    let of = send-of s _ c.args.stream c.group_of-most.result c.send-turn.result c.send-turn.new.self c.send-turn.new.streams c.self.invariant.0 c.self.view_is c.requires (sym c.is_live.ensures ∙ c.if-not-is_live.false) c.group_of-most.ensures
    (record { step = e.step; call = e.call; others = e.others; none_made = e.none_made; put = e.put; waits = e.waits; paired = c.pair_contents.ensures; carried = c.hold_spellings.ensures.lanes }) in
    let r = c.settle.ensures in (
      stays-settled s (after_send s c.send-turn.new.self c.send-turn.new.streams) _ _ c.send-turn.result c.self.invariant.0 of (record { rest = refl; journal = r.journal; phase = r.phase; going = r.going; given_up = r.given_up }),
      rooms-stay _ _ _ _ _ _ c.self.invariant.1 r.reserved,
    )

pub returns : goal.returns
returns g c =
    let h = c.self.inside in
    let s = state_of h.job h.journal.items h.history.entries h.phase h.stun h.source h.dest h.streams h.back h.reads.items in
    let t = state_of h.job c.settle.new.journal.items h.history.entries c.settle.new.phase h.stun c.settle.new.source h.dest c.send-turn.new.streams h.back h.reads.items in
    let e = c.send-turn.ensures in
    let of = send-of s _ c.args.stream c.group_of-most.result c.send-turn.result c.send-turn.new.self c.send-turn.new.streams c.self.invariant.0 c.self.view_is c.requires (sym c.is_live.ensures ∙ c.if-not-is_live.false) c.group_of-most.ensures
    (record { step = e.step; call = e.call; others = e.others; none_made = e.none_made; put = e.put; waits = e.waits; paired = c.pair_contents.ensures; carried = c.hold_spellings.ensures.lanes }) in
    let r = c.settle.ensures in
    steps-settled s (after_send s c.send-turn.new.self c.send-turn.new.streams) t _ _ c.send-turn.result c.settle.result c.self.invariant.0 c.self.view_is r.answer of (record { rest = refl; journal = r.journal; phase = r.phase; going = r.going; given_up = r.given_up })

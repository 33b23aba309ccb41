use Rattle.std.proofs.Common.{refl, sym, ◌∙◌}
use Rattle.xv_base.specs.declared.event.Event.TheVariants.{Deliver}
use Rattle.xv_core.specs.State.{state_of}
use Rattle.xv_core.proofs.Keeping.Calls.{can-take}
use Rattle.xv_core.proofs.MovingEvents.ByDest.{after_deliver}
use Rattle.xv_core.proofs.MovingEvents.Events.{deliver-of, waits-not-live}
use Rattle.xv_core.proofs.MovingEvents.Settled.{room-for, stays-settled, steps-settled, rooms-stay}
use Rattle.xv_core.proofs.migration.Migration.deliver.Goals as goal

pub returns-then-not-is_live : goal.returns-then-not-is_live
returns-then-not-is_live g c =
    let h = c.self.inside in
    let s = state_of h.job h.journal.items h.history.entries h.phase h.stun h.source h.dest h.streams h.back h.reads.items in
    waits-not-live s _ (Deliver c.args.stream) c.self.invariant.0 c.self.view_is refl (sym c.is_live.ensures ∙ c.if-not-is_live.true)

pub deliver-turn-requires-clause-may_take : goal.deliver-turn-requires-clause-may_take
deliver-turn-requires-clause-may_take g c =
    let h = c.self.inside in
    let s = state_of h.job h.journal.items h.history.entries h.phase h.stun h.source h.dest h.streams h.back h.reads.items in
    can-take s c.args.stream c.self.invariant.0.running

pub settle-requires : goal.settle-requires
settle-requires g c =
    let h = c.self.inside in
    let s = state_of h.job h.journal.items h.history.entries h.phase h.stun h.source h.dest h.streams h.back h.reads.items in
    let e = c.deliver-turn.ensures in
    let of = deliver-of s _ c.args.stream c.deliver-turn.result c.deliver-turn.new.self c.deliver-turn.new.streams c.self.invariant.0 c.self.view_is c.requires (sym c.is_live.ensures ∙ c.if-not-is_live.false)
    (record { step = e.step; bytes = e.bytes; call = e.call; others = e.others; taken = e.taken; carried = c.hold_spellings.ensures.lanes }) in
    record { room = room-for s _ _ c.deliver-turn.result _ c.self.invariant.0 of c.self.invariant.1.journal }

pub invariant_of-self : goal.invariant_of-self
invariant_of-self g c =
    let h = c.self.inside in
    let s = state_of h.job h.journal.items h.history.entries h.phase h.stun h.source h.dest h.streams h.back h.reads.items in
    let e = c.deliver-turn.ensures in
    let of = deliver-of s _ c.args.stream c.deliver-turn.result c.deliver-turn.new.self c.deliver-turn.new.streams c.self.invariant.0 c.self.view_is c.requires (sym c.is_live.ensures ∙ c.if-not-is_live.false)
    (record { step = e.step; bytes = e.bytes; call = e.call; others = e.others; taken = e.taken; carried = c.hold_spellings.ensures.lanes }) in
    let r = c.settle.ensures in (
      stays-settled s (after_deliver s c.deliver-turn.new.self c.deliver-turn.new.streams) _ _ c.deliver-turn.result c.self.invariant.0 of (record { rest = refl; journal = r.journal; phase = r.phase; going = r.going; given_up = r.given_up }),
      rooms-stay _ _ _ _ _ _ c.self.invariant.1 r.reserved,
    )

pub returns : goal.returns
returns g c =
    let h = c.self.inside in
    let s = state_of h.job h.journal.items h.history.entries h.phase h.stun h.source h.dest h.streams h.back h.reads.items in
    let t = state_of h.job c.settle.new.journal.items h.history.entries c.settle.new.phase h.stun c.settle.new.source c.deliver-turn.new.self c.deliver-turn.new.streams h.back h.reads.items in
    let e = c.deliver-turn.ensures in
    let of = deliver-of s _ c.args.stream c.deliver-turn.result c.deliver-turn.new.self c.deliver-turn.new.streams c.self.invariant.0 c.self.view_is c.requires (sym c.is_live.ensures ∙ c.if-not-is_live.false)
    (record { step = e.step; bytes = e.bytes; call = e.call; others = e.others; taken = e.taken; carried = c.hold_spellings.ensures.lanes }) in
    let r = c.settle.ensures in
    steps-settled s (after_deliver s c.deliver-turn.new.self c.deliver-turn.new.streams) t _ _ c.deliver-turn.result c.settle.result c.self.invariant.0 c.self.view_is r.answer of (record { rest = refl; journal = r.journal; phase = r.phase; going = r.going; given_up = r.given_up })

use Rattle.std.proofs.Common.{refl, sym, ◌∙◌}
use Rattle.xv_base.specs.declared.event.Event.TheVariants.{Credit}
use Rattle.xv_core.specs.State.{state_of}
use Rattle.xv_core.proofs.Keeping.Calls.{credit-within}
use Rattle.xv_core.proofs.MovingEvents.BySource.{after_credit}
use Rattle.xv_core.proofs.MovingEvents.Events.{credit-of, waits-not-live}
use Rattle.xv_core.proofs.MovingEvents.Settled.{room-for, stays-settled, steps-settled, rooms-stay}
use Rattle.xv_core.proofs.migration.Migration.credit.Goals as goal

pub returns-then-not-is_live : goal.returns-then-not-is_live
returns-then-not-is_live g c =
    let h = c.self.inside in
    let s = state_of h.job h.journal.items h.history.entries h.phase h.stun h.source h.dest h.streams h.back h.reads.items in
    waits-not-live s _ Credit c.self.invariant.0 c.self.view_is refl (sym c.is_live.ensures ∙ c.if-not-is_live.true)

pub credit-turn-requires : goal.credit-turn-requires
credit-turn-requires g c =
    let h = c.self.inside in
    let s = state_of h.job h.journal.items h.history.entries h.phase h.stun h.source h.dest h.streams h.back h.reads.items in
    credit-within s c.self.invariant.0.running

pub settle-requires : goal.settle-requires
settle-requires g c =
    let h = c.self.inside in
    let s = state_of h.job h.journal.items h.history.entries h.phase h.stun h.source h.dest h.streams h.back h.reads.items in
    let e = c.credit-turn.ensures in
    let of = credit-of s c.credit-turn.result c.credit-turn.new.self c.credit-turn.new.back c.self.invariant.0 (sym c.is_live.ensures ∙ c.if-not-is_live.false)
    (record { step = e.step; call = e.call; taken = e.taken; carried = c.waiting.ensures.carried }) in
    record { room = room-for s _ _ c.credit-turn.result _ c.self.invariant.0 of c.self.invariant.1.journal }

pub invariant_of-self : goal.invariant_of-self
invariant_of-self g c =
    let h = c.self.inside in
    let s = state_of h.job h.journal.items h.history.entries h.phase h.stun h.source h.dest h.streams h.back h.reads.items in
    let e = c.credit-turn.ensures in
    let of = credit-of s c.credit-turn.result c.credit-turn.new.self c.credit-turn.new.back c.self.invariant.0 (sym c.is_live.ensures ∙ c.if-not-is_live.false)
    (record { step = e.step; call = e.call; taken = e.taken; carried = c.waiting.ensures.carried }) in
    let r = c.settle.ensures in (
      stays-settled s (after_credit s c.credit-turn.new.self c.credit-turn.new.back) _ _ c.credit-turn.result c.self.invariant.0 of (record { rest = refl; journal = r.journal; phase = r.phase; going = r.going; given_up = r.given_up }),
      rooms-stay _ _ _ _ _ _ c.self.invariant.1 r.reserved,
    )

pub returns : goal.returns
returns g c =
    let h = c.self.inside in
    let s = state_of h.job h.journal.items h.history.entries h.phase h.stun h.source h.dest h.streams h.back h.reads.items in
    let t = state_of h.job c.settle.new.journal.items h.history.entries c.settle.new.phase h.stun c.settle.new.source h.dest h.streams c.credit-turn.new.back h.reads.items in
    let e = c.credit-turn.ensures in
    let of = credit-of s c.credit-turn.result c.credit-turn.new.self c.credit-turn.new.back c.self.invariant.0 (sym c.is_live.ensures ∙ c.if-not-is_live.false)
    (record { step = e.step; call = e.call; taken = e.taken; carried = c.waiting.ensures.carried }) in
    let r = c.settle.ensures in
    steps-settled s (after_credit s c.credit-turn.new.self c.credit-turn.new.back) t _ _ c.credit-turn.result c.settle.result c.self.invariant.0 c.self.view_is r.answer of (record { rest = refl; journal = r.journal; phase = r.phase; going = r.going; given_up = r.given_up })

use Rattle.std.proofs.Common.{false, refl, sym, ◌∙◌}
use Rattle.xv_base.specs.declared.event.Event.TheVariants.{Apply}
use Rattle.xv_core.specs.State.{state_of}
use Rattle.xv_core.proofs.Keeping.Calls.{apply-few}
use Rattle.xv_core.proofs.Counting.Room.{dest-countable}
use Rattle.xv_core.proofs.MovingEvents.ByDest.{after_apply}
use Rattle.xv_core.proofs.MovingEvents.Events.{apply-of, none-seen, apply-live}
use Rattle.xv_core.proofs.MovingEvents.Settled.{room-for, stays-settled, steps-settled, rooms-stay}
use Rattle.xv_core.proofs.GuestEvents.OperationSteps.{stays-waiting}
use Rattle.xv_core.proofs.migration.Migration.apply.Goals as goal

pub returns-in-Some : goal.returns-in-Some
returns-in-Some g c = stays-waiting _ c.args.self.now _ c.in-Some.why c.self.invariant.0 c.self.view_is (sym c.apply_wait.ensures ∙ c.in-Some.is)

pub apply-turn-requires-clause-few : goal.apply-turn-requires-clause-few
apply-turn-requires-clause-few g c =
    let h = c.self.inside in
    let s = state_of h.job h.journal.items h.history.entries h.phase h.stun h.source h.dest h.streams h.back h.reads.items in
    apply-few s false c.self.invariant.0.running (none-seen s _ Apply c.self.view_is (sym c.apply_wait.ensures ∙ c.in_default.is))

pub apply-turn-requires-clause-countable : goal.apply-turn-requires-clause-countable
apply-turn-requires-clause-countable g c =
    let h = c.self.inside in
    let s = state_of h.job h.journal.items h.history.entries h.phase h.stun h.source h.dest h.streams h.back h.reads.items in
    dest-countable s c.self.invariant.0

pub settle-requires : goal.settle-requires
settle-requires g c =
    let h = c.self.inside in
    let s = state_of h.job h.journal.items h.history.entries h.phase h.stun h.source h.dest h.streams h.back h.reads.items in
    let e = c.apply-turn.ensures in
    let of = apply-of s c.apply-turn.result c.apply-turn.new.self c.self.invariant.0 (apply-live s c.self.invariant.0 (none-seen s _ Apply c.self.view_is (sym c.apply_wait.ensures ∙ c.in_default.is)))
    (record { step = e.step; bytes = e.bytes; call = e.call; whole = e.whole }) in
    record { room = room-for s _ _ c.apply-turn.result _ c.self.invariant.0 of c.self.invariant.1.journal }

pub invariant_of-self : goal.invariant_of-self
invariant_of-self g c =
    let h = c.self.inside in
    let s = state_of h.job h.journal.items h.history.entries h.phase h.stun h.source h.dest h.streams h.back h.reads.items in
    let e = c.apply-turn.ensures in
    let of = apply-of s c.apply-turn.result c.apply-turn.new.self c.self.invariant.0 (apply-live s c.self.invariant.0 (none-seen s _ Apply c.self.view_is (sym c.apply_wait.ensures ∙ c.in_default.is)))
    (record { step = e.step; bytes = e.bytes; call = e.call; whole = e.whole }) in
    let r = c.settle.ensures in (
      stays-settled s (after_apply s c.apply-turn.new.self) _ _ c.apply-turn.result c.self.invariant.0 of (record { rest = refl; journal = r.journal; phase = r.phase; going = r.going; given_up = r.given_up }),
      rooms-stay _ _ _ _ _ _ c.self.invariant.1 r.reserved,
    )

pub returns : goal.returns
returns g c =
    let h = c.self.inside in
    let s = state_of h.job h.journal.items h.history.entries h.phase h.stun h.source h.dest h.streams h.back h.reads.items in
    let t = state_of h.job c.settle.new.journal.items h.history.entries c.settle.new.phase h.stun c.settle.new.source c.apply-turn.new.self h.streams h.back h.reads.items in
    let e = c.apply-turn.ensures in
    let of = apply-of s c.apply-turn.result c.apply-turn.new.self c.self.invariant.0 (apply-live s c.self.invariant.0 (none-seen s _ Apply c.self.view_is (sym c.apply_wait.ensures ∙ c.in_default.is)))
    (record { step = e.step; bytes = e.bytes; call = e.call; whole = e.whole }) in
    let r = c.settle.ensures in
    steps-settled s (after_apply s c.apply-turn.new.self) t _ _ c.apply-turn.result c.settle.result c.self.invariant.0 c.self.view_is r.answer of (record { rest = refl; journal = r.journal; phase = r.phase; going = r.going; given_up = r.given_up })

use Rattle.std.proofs.Common.{refl}
use Rattle.xv_base.specs.declared.event.Event.TheVariants.{Advance}
use Rattle.xv_core.specs.State.{state_of}
use Rattle.xv_core.proofs.Keeping.Counts.{few-versions}
use Rattle.xv_core.proofs.CopyingEvents.SourceEvents.{disk-of-half, advance-of}
use Rattle.xv_core.proofs.CopyingEvents.SourceSettled.{room-for, stays-settled, steps-settled, rooms-stay}
use Rattle.xv_core.proofs.CopyingEvents.SourceWaits.{copy-not-now, waits-as}
use Rattle.xv_core.proofs.migration.Migration.advance.Goals as goal

pub advance-turn-requires-clause-disk_in : goal.advance-turn-requires-clause-disk_in
advance-turn-requires-clause-disk_in g c =
    let h = c.self.inside in
    let s = state_of h.job h.journal.items h.history.entries h.phase h.stun h.source h.dest h.streams h.back h.reads.items in
    disk-of-half s _ c.args.disk c.self.invariant.0 c.self.view_is c.requires

pub advance-turn-requires-clause-few : goal.advance-turn-requires-clause-few
advance-turn-requires-clause-few g c =
    let h = c.self.inside in
    let s = state_of h.job h.journal.items h.history.entries h.phase h.stun h.source h.dest h.streams h.back h.reads.items in
    few-versions s c.self.invariant.0.running

pub returns-then-not-is_running : goal.returns-then-not-is_running
returns-then-not-is_running g c =
    let h = c.self.inside in
    let s = state_of h.job h.journal.items h.history.entries h.phase h.stun h.source h.dest h.streams h.back h.reads.items in
    waits-as s _ (Advance c.args.disk) _ c.self.view_is (copy-not-now s (Advance c.args.disk) c.self.invariant.0 refl c.if-not-is_running.ensures)

pub settle-requires : goal.settle-requires
settle-requires g c =
    let h = c.self.inside in
    let s = state_of h.job h.journal.items h.history.entries h.phase h.stun h.source h.dest h.streams h.back h.reads.items in
    let of = advance-of s _ c.args.disk c.len.result c.advance-turn.result c.advance-turn.new.self c.self.invariant.0 c.self.view_is c.requires c.if-not-is_running.ensures c.len.ensures.exactly c.advance-turn.ensures.step c.advance-turn.ensures.call in
    record { room = room-for s _ c.advance-turn.result _ _ _ _ c.self.invariant.0 of c.self.invariant.1.journal }

pub invariant_of-self : goal.invariant_of-self
invariant_of-self g c =
    let h = c.self.inside in
    let s = state_of h.job h.journal.items h.history.entries h.phase h.stun h.source h.dest h.streams h.back h.reads.items in
    let of = advance-of s _ c.args.disk c.len.result c.advance-turn.result c.advance-turn.new.self c.self.invariant.0 c.self.view_is c.requires c.if-not-is_running.ensures c.len.ensures.exactly c.advance-turn.ensures.step c.advance-turn.ensures.call in
    let e = c.settle.ensures in
    (stays-settled s _ _ c.advance-turn.result c.advance-turn.new.self c.self.invariant.0 of (record { rest = refl; journal = e.journal; phase = e.phase; going = e.going; given_up = e.given_up }), rooms-stay _ _ _ _ _ _ c.self.invariant.1 e.reserved)

pub returns : goal.returns
returns g c =
    let h = c.self.inside in
    let s = state_of h.job h.journal.items h.history.entries h.phase h.stun h.source h.dest h.streams h.back h.reads.items in
    let t = state_of h.job c.settle.new.journal.items h.history.entries c.settle.new.phase h.stun c.settle.new.source h.dest h.streams h.back h.reads.items in
    let of = advance-of s _ c.args.disk c.len.result c.advance-turn.result c.advance-turn.new.self c.self.invariant.0 c.self.view_is c.requires c.if-not-is_running.ensures c.len.ensures.exactly c.advance-turn.ensures.step c.advance-turn.ensures.call in
    let e = c.settle.ensures in
    steps-settled s t _ _ c.advance-turn.result c.settle.result c.advance-turn.new.self c.self.invariant.0 c.self.view_is e.answer of (record { rest = refl; journal = e.journal; phase = e.phase; going = e.going; given_up = e.given_up })

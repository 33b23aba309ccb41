use Rattle.std.proofs.Common.{refl}
use Rattle.xv_base.specs.declared.event.Event.TheVariants.{Page}
use Rattle.xv_core.specs.State.{state_of}
use Rattle.xv_core.proofs.Keeping.Counts.{few-versions}
use Rattle.xv_core.proofs.Counting.Room.{source-countable}
use Rattle.xv_core.proofs.CopyingEvents.SourceEvents.{page-of}
use Rattle.xv_core.proofs.CopyingEvents.SourceSettled.{room-for, stays-settled, steps-settled, rooms-stay}
use Rattle.xv_core.proofs.CopyingEvents.SourceWaits.{copy-not-now, waits-as}
use Rattle.xv_core.proofs.migration.Migration.page.Goals as goal

pub page-turn-requires-clause-few : goal.page-turn-requires-clause-few
page-turn-requires-clause-few g c =
    let h = c.self.inside in
    let s = state_of h.job h.journal.items h.history.entries h.phase h.stun h.source h.dest h.streams h.back h.reads.items in
    few-versions s c.self.invariant.0.running

pub page-turn-requires-clause-countable : goal.page-turn-requires-clause-countable
page-turn-requires-clause-countable g c =
    let h = c.self.inside in
    let s = state_of h.job h.journal.items h.history.entries h.phase h.stun h.source h.dest h.streams h.back h.reads.items in
    source-countable s c.self.invariant.0

pub returns-then-not-is_live : goal.returns-then-not-is_live
returns-then-not-is_live g c =
    let h = c.self.inside in
    let s = state_of h.job h.journal.items h.history.entries h.phase h.stun h.source h.dest h.streams h.back h.reads.items in
    waits-as s _ Page _ c.self.view_is (copy-not-now s Page c.self.invariant.0 refl c.if-not-is_live.ensures)

pub settle-requires : goal.settle-requires
settle-requires g c =
    let h = c.self.inside in
    let s = state_of h.job h.journal.items h.history.entries h.phase h.stun h.source h.dest h.streams h.back h.reads.items in
    let of = page-of s c.len.result c.page-turn.result c.page-turn.new.self c.self.invariant.0 c.if-not-is_live.ensures c.len.ensures.exactly c.page-turn.ensures.step c.page-turn.ensures.call in
    record { room = room-for s _ c.page-turn.result _ _ _ _ c.self.invariant.0 of c.self.invariant.1.journal }

pub invariant_of-self : goal.invariant_of-self
invariant_of-self g c =
    let h = c.self.inside in
    let s = state_of h.job h.journal.items h.history.entries h.phase h.stun h.source h.dest h.streams h.back h.reads.items in
    let of = page-of s c.len.result c.page-turn.result c.page-turn.new.self c.self.invariant.0 c.if-not-is_live.ensures c.len.ensures.exactly c.page-turn.ensures.step c.page-turn.ensures.call in
    let e = c.settle.ensures in
    (stays-settled s _ _ c.page-turn.result c.page-turn.new.self c.self.invariant.0 of (record { rest = refl; journal = e.journal; phase = e.phase; going = e.going; given_up = e.given_up }), rooms-stay _ _ _ _ _ _ c.self.invariant.1 e.reserved)

pub returns : goal.returns
returns g c =
    let h = c.self.inside in
    let s = state_of h.job h.journal.items h.history.entries h.phase h.stun h.source h.dest h.streams h.back h.reads.items in
    let t = state_of h.job c.settle.new.journal.items h.history.entries c.settle.new.phase h.stun c.settle.new.source h.dest h.streams h.back h.reads.items in
    let of = page-of s c.len.result c.page-turn.result c.page-turn.new.self c.self.invariant.0 c.if-not-is_live.ensures c.len.ensures.exactly c.page-turn.ensures.step c.page-turn.ensures.call in
    let e = c.settle.ensures in
    steps-settled s t _ _ c.page-turn.result c.settle.result c.page-turn.new.self c.self.invariant.0 c.self.view_is e.answer of (record { rest = refl; journal = e.journal; phase = e.phase; going = e.going; given_up = e.given_up })

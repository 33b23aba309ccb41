use Rattle.std.proofs.Common.{refl}
use Rattle.xv_base.specs.declared.event.Event.TheVariants.{Cancel}
use Rattle.xv_base.specs.declared.event.Phase.TheVariants.{Cancelled}
use Rattle.xv_core.specs.State.{state_of}
use Rattle.xv_core.proofs.CopyingEvents.Cancelling.{room-to-cancel, stays-cancelled, steps-cancelled}
use Rattle.xv_core.proofs.CopyingEvents.SourceSettled.{rooms-stay}
use Rattle.xv_core.proofs.CopyingEvents.SourceWaits.{cancel-not-come, cancel-not-live, waits-as}
use Rattle.xv_core.proofs.migration.Migration.cancel.Goals as goal

pub returns-then-not-reaches_cancel : goal.returns-then-not-reaches_cancel
returns-then-not-reaches_cancel g c =
    let h = c.self.inside in
    let s = state_of h.job h.journal.items h.history.entries h.phase h.stun h.source h.dest h.streams h.back h.reads.items in
    waits-as s _ Cancel _ c.self.view_is (cancel-not-come s c.len.result c.self.invariant.0 c.len.ensures.exactly c.if-not-reaches_cancel.ensures)

pub returns-then-not-is_live : goal.returns-then-not-is_live
returns-then-not-is_live g c =
    let h = c.self.inside in
    let s = state_of h.job h.journal.items h.history.entries h.phase h.stun h.source h.dest h.streams h.back h.reads.items in
    waits-as s _ Cancel _ c.self.view_is (cancel-not-live s c.self.invariant.0 c.if-not-is_live.ensures)

pub enter-requires : goal.enter-requires
enter-requires g c =
    let h = c.self.inside in
    let s = state_of h.job h.journal.items h.history.entries h.phase h.stun h.source h.dest h.streams h.back h.reads.items in
    record { room = λ goes. room-to-cancel s c.len.result _ c.self.invariant.0 c.len.ensures.exactly c.if-not-reaches_cancel.ensures c.if-not-is_live.ensures c.self.invariant.1.journal }

pub invariant_of-self : goal.invariant_of-self
invariant_of-self g c =
    let h = c.self.inside in
    let s = state_of h.job h.journal.items h.history.entries h.phase h.stun h.source h.dest h.streams h.back h.reads.items in
    let a = c.abandon.ensures in (
      stays-cancelled s _ c.len.result c.self.invariant.0 c.len.ensures.exactly c.if-not-reaches_cancel.ensures c.if-not-is_live.ensures
          (record { rest = refl; journal = c.enter.ensures.journal; gone = record { part = a.part; bytes = a.bytes; call = a.call } }),
      rooms-stay _ _ _ _ _ _ c.self.invariant.1 c.enter.ensures.reserved,
    )

pub returns : goal.returns
returns g c =
    let h = c.self.inside in
    let s = state_of h.job h.journal.items h.history.entries h.phase h.stun h.source h.dest h.streams h.back h.reads.items in
    let t = state_of h.job c.enter.new.journal.items h.history.entries Cancelled h.stun c.abandon.new.self h.dest h.streams h.back h.reads.items in
    let a = c.abandon.ensures in
    steps-cancelled s t _ c.len.result c.self.invariant.0 c.self.view_is c.len.ensures.exactly c.if-not-reaches_cancel.ensures c.if-not-is_live.ensures
    (record { rest = refl; journal = c.enter.ensures.journal; gone = record { part = a.part; bytes = a.bytes; call = a.call } })

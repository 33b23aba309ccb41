use Rattle.std.proofs.Common.{arith, ◌≡◌, ◌<◌, length, get_or, Some, ap}
use Rattle.std.specs.Prelude.{slice_get}
use Rattle.std.proofs.lemmas.List.{length-map, get_or_read}
use Rattle.xv_base.specs.Units.{units}
use Rattle.xv_outbox.specs.Messages.{Outbox}
use Rattle.xv_outbox.specs.Places.{message_of}
use Rattle.xv_outbox.proofs.Laid.{laid-taken}
use Rattle.xv_outbox.proofs.Counted.{front-unit, front-counted, counted-taken}
use Rattle.xv_outbox.proofs.outbox.Outbox.take.Goals as goal

pub index_mut-requires : goal.index_mut-requires
index_mut-requires c =
    let first : slice_get c.self.inside.queue.items 0 ≡ Some c.in-Some.queued = cc (c.in-Some.ensures.value) in
    let unit : c.in-Some.queued.head.unit.0 < units c.self.inside.layout = front-unit _ _ _ _ _ _ _ c.self.invariant.0 c.in-Some.queued first in
    omega (arith, c.self.invariant.1.each)

pub overflow_sub-index_mut : goal.overflow_sub-index_mut
overflow_sub-index_mut c =
    let first : slice_get c.self.inside.queue.items 0 ≡ Some c.in-Some.queued = cc (c.in-Some.ensures.value) in
    let unit : c.in-Some.queued.head.unit.0 < units c.self.inside.layout = front-unit _ _ _ _ _ _ _ c.self.invariant.0 c.in-Some.queued first in
    let count : c.index_mut.result.now ≡ get_or c.self.inside.counts.items c.in-Some.queued.head.unit.0 0 =
    get_or_read c.self.inside.counts.items c.in-Some.queued.head.unit.0 c.index_mut.result.now (omega (arith, c.self.invariant.1.each)) c.index_mut.ensures.value 0 in
    omega (arith, front-counted _ _ _ c.self.invariant.1 c.in-Some.queued first)

pub invariant_of-self : goal.invariant_of-self
invariant_of-self c =
    let first : slice_get c.self.inside.queue.items 0 ≡ Some c.in-Some.queued = cc (c.in-Some.ensures.value) in
    let unit : c.in-Some.queued.head.unit.0 < units c.self.inside.layout = front-unit _ _ _ _ _ _ _ c.self.invariant.0 c.in-Some.queued first in
    let count : c.index_mut.result.now ≡ get_or c.self.inside.counts.items c.in-Some.queued.head.unit.0 0 =
    get_or_read c.self.inside.counts.items c.in-Some.queued.head.unit.0 c.index_mut.result.now (omega (arith, c.self.invariant.1.each)) c.index_mut.ensures.value 0 in
    let some : 0 < length c.self.inside.queue.items = omega (arith, ap (λ (o : Outbox). length o.messages) c.self.view_is, length-map c.self.inside.queue.items (message_of c.self.inside.layout c.self.inside.contents), c.requires) in
    rw (c.in-Some.ensures.items, count)
    (laid-taken _ _ _ _ _ _ _ c.self.invariant.0 some, counted-taken _ _ _ c.self.invariant.1 c.in-Some.queued first unit)

use Rattle.std.proofs.Common.{arith, ◌<◌, length, ap}
use Rattle.std.proofs.lemmas.List.{length-map}
use Rattle.xv_base.specs.Units.{units}
use Rattle.xv_outbox.specs.Messages.{Outbox}
use Rattle.xv_outbox.specs.Places.{message_of}
use Rattle.xv_outbox.proofs.Laid.{size-fits}
use Rattle.xv_outbox.proofs.outbox.Outbox.nth_bytes.Goals as goal

pub part-requires-clause-fits : goal.part-requires-clause-fits
part-requires-clause-fits c =
    let there : c.args.i < length c.self.inside.queue.items = omega (arith, ap (λ (o : Outbox). length o.messages) c.self.view_is, length-map c.self.inside.queue.items (message_of c.self.inside.layout c.self.inside.contents), c.requires) in
    let unit : c.entry-slot.result.head.unit.0 < units c.self.inside.layout = rw c.entry-slot.ensures (c.self.invariant.0.units_in c.args.i there) in
    omega (arith, size-fits _ _ _ _ _ _ _ c.self.invariant.0 _ unit, c.size.ensures.exactly)

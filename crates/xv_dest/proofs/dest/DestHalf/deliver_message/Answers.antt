use Rattle.std.proofs.Common.{◌≡◌, length, sym, ap, ◌∙◌}
use Rattle.xv_streams.specs.Streamed.{lane}
use Rattle.xv_dest.proofs.Arrivals.{none-held, first-not_held, arrives-received}
use Rattle.xv_dest.proofs.dest.DestHalf.deliver_message.Goals as goal

pub arrive-requires-clause-not_held : goal.arrive-requires-clause-not_held
arrive-requires-clause-not_held g c =
    let none = first-not_held (lane c.args.streams.now c.args.stream).groups c.args.self.now c.in-Ok-Some.head c.requires.may_take (sym c.in-Ok-Some.field-0-is ∙ c.in-Ok-Some.ensures.taken.answer) in
    none-held c.self.inside.hold _ _ (rw (← c.self.view_is) at none)

pub returns-in-Ok-Some-clause-arrives : goal.returns-in-Ok-Some-clause-arrives
returns-in-Ok-Some-clause-arrives g c =
    let taken = c.in-Ok-Some.ensures.taken in
    let shape : c.args.streams.now.shape ≡ c.self.inside.layout = rw (← c.self.view_is) at c.requires.layout in
    let room : c.self.inside.unit.len ≡ length c.receive.new.into = c.self.inside.unit.ok.0 ∙ sym (ap length c.deref_mut.ensures.value) ∙ sym c.receive.auto.into in
    rw (← c.self.view_is) (arrives-received c.args.stream (lane c.args.streams.now c.args.stream).groups c.in-Ok-Some.field-0 c.in-Ok-Some.head _ _ c.receive.new.into _ _ _ _ _ _ _ _ c.self.inside.hold c.arrive.new.self
    c.in-Ok-Some.field-0-is taken.answer taken.content_is taken.in_range c.deref.ensures.value room shape c.size-size.ensures.exactly (rw c.requires.format at c.waiting.ensures.carried.sizes) c.arrive.ensures)

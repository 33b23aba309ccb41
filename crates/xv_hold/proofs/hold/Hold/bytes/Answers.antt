use Rattle.std.proofs.Common.{◌<◌, subst, sym, ap, ◌∙◌, arith, take}
use Rattle.xv_base.specs.Units.{units}
use Rattle.xv_slots.specs.Row.{content}
use Rattle.xv_hold.specs.Messages.{Hold, ready_slot, ready_message}
use Rattle.xv_hold.specs.Fields.{state_of}
use Rattle.xv_hold.proofs.FirstReady.{content-is, slot-in-row, size-fits}
use Rattle.xv_hold.proofs.hold.Hold.bytes.Goals as goal

pub part-requires-clause-slot_in : goal.part-requires-clause-slot_in
part-requires-clause-slot_in c = slot-in-row (state_of c.self.inside) c.self.invariant.0 c.args.slot (ap ready_slot c.self.view_is ∙ c.requires)

pub part-requires-clause-fits : goal.part-requires-clause-fits
part-requires-clause-fits c =
    let unit : c.head.result.unit.0 < units c.self.inside.layout = subst (λ (v : Hold). c.head.result.unit.0 < units v.shape) (sym c.self.view_is) c.head.ensures.in_range in
    omega (arith, size-fits (state_of c.self.inside) c.self.invariant.0 c.head.result.unit.0 unit, c.size.ensures.exactly)

pub returns-clause-exactly : goal.returns-clause-exactly
returns-clause-exactly c =
    c.part.ensures.exactly
    ∙ ap (λ n. take n (content c.self.inside.contents c.args.slot)) c.size.ensures.exactly
    ∙ content-is (state_of c.self.inside) c.self.invariant.0 c.args.slot c.head.result (ap ready_slot c.self.view_is ∙ c.requires) (c.head.ensures.exactly ∙ sym (ap (λ (v : Hold). (ready_message v).head) c.self.view_is))
    ∙ ap (λ (v : Hold). (ready_message v).content) c.self.view_is

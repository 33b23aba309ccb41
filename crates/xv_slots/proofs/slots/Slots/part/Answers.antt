use Rattle.std.proofs.Common.{◌<◌, ◌≤◌, ◌*◌, length, take, drop, subst, sym, ap, ◌∙◌, arith}
use Rattle.std.proofs.lemmas.List.{length-take, length-drop}
use Rattle.xv_slots.specs.Row.{Row, content}
use Rattle.xv_slots.proofs.Rows.{length-row, slot-fits, part-row}
use Rattle.xv_slots.proofs.slots.Slots.part.Goals as goal

pub part-requires : goal.part-requires
part-requires c =
    let slot_in : c.args.slot < c.self.inside.count = omega (arith, ap (λ (r : Row). length r.slots) c.self.view_is, length-row c.self.inside.width c.self.inside.count c.self.inside.bytes.items, c.requires.slot_in) in
    let fits : c.args.count ≤ c.self.inside.width = subst (λ (r : Row). c.args.count ≤ r.width) (sym c.self.view_is) c.requires.fits in
    omega (arith, slot-fits _ _ _ _ c.self.invariant slot_in, ap length c.deref.ensures.value)

pub returns-clause-exactly : goal.returns-clause-exactly
returns-clause-exactly c =
    let slot_in : c.args.slot < c.self.inside.count = omega (arith, ap (λ (r : Row). length r.slots) c.self.view_is, length-row c.self.inside.width c.self.inside.count c.self.inside.bytes.items, c.requires.slot_in) in
    let fits : c.args.count ≤ c.self.inside.width = subst (λ (r : Row). c.args.count ≤ r.width) (sym c.self.view_is) c.requires.fits in
    c.part.ensures
    ∙ ap (λ b. take c.args.count (drop (c.args.slot * c.self.inside.width) b)) c.deref.ensures.value
    ∙ part-row _ c.self.inside.count _ _ _ slot_in fits
    ∙ ap (λ (r : Row). take c.args.count (content r c.args.slot)) c.self.view_is

pub returns-clause-full : goal.returns-clause-full
returns-clause-full c =
    let slot_in : c.args.slot < c.self.inside.count = omega (arith, ap (λ (r : Row). length r.slots) c.self.view_is, length-row c.self.inside.width c.self.inside.count c.self.inside.bytes.items, c.requires.slot_in) in
    let fits : c.args.count ≤ c.self.inside.width = subst (λ (r : Row). c.args.count ≤ r.width) (sym c.self.view_is) c.requires.fits in
    omega (arith, ap length c.part.ensures, length-take c.args.count (drop (c.args.slot * c.self.inside.width) c.deref.result.now), length-drop (c.args.slot * c.self.inside.width) c.deref.result.now, slot-fits _ _ _ _ c.self.invariant slot_in, ap length c.deref.ensures.value)

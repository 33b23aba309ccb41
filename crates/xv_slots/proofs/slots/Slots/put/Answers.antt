use Rattle.std.proofs.Common.{◌≡◌, ◌<◌, ◌≤◌, ◌*◌, length, subst, sym, ap, ◌∙◌, arith}
use Rattle.std.proofs.lemmas.List.{with_items_is}
use Rattle.std.specs.Vec.{with_items}
use Rattle.xv_slots.specs.Row.{Row, laid, put}
use Rattle.xv_slots.proofs.Rows.{length-row, slot-fits, row-laid}
use Rattle.xv_slots.proofs.slots.Slots.put.Goals as goal

pub copy_in-requires : goal.copy_in-requires
copy_in-requires c =
    let slot_in : c.args.slot < c.self.inside.count = omega (arith, ap (λ (r : Row). length r.slots) c.self.view_is, length-row c.self.inside.width c.self.inside.count c.self.inside.bytes.items, c.requires.slot_in) in
    let fits : length c.args.bytes.now ≤ c.self.inside.width = subst (λ (r : Row). length c.args.bytes.now ≤ r.width) (sym c.self.view_is) c.requires.fits in
    omega (arith, slot-fits _ _ _ _ c.self.invariant slot_in, ap length c.deref_mut.ensures.value)

pub returns : goal.returns
returns c =
    let slot_in : c.args.slot < c.self.inside.count = omega (arith, ap (λ (r : Row). length r.slots) c.self.view_is, length-row c.self.inside.width c.self.inside.count c.self.inside.bytes.items, c.requires.slot_in) in
    let fits : length c.args.bytes.now ≤ c.self.inside.width = subst (λ (r : Row). length c.args.bytes.now ≤ r.width) (sym c.self.view_is) c.requires.fits in
    let held : (with_items c.self.inside.bytes c.copy_in.new.bytes).items ≡ laid (c.args.slot * c.self.inside.width) c.args.bytes.now c.self.inside.bytes.items =
    with_items_is c.self.inside.bytes c.copy_in.new.bytes (c.copy_in.auto.bytes ∙ c.deref_mut.ensures.len)
    ∙ (rw (← c.deref_mut.ensures.value) c.copy_in.ensures) in
    rw (held, row-laid _ _ _ _ _ c.self.invariant slot_in fits) (ap (λ (r : Row). put r c.args.slot c.args.bytes.now) c.self.view_is)

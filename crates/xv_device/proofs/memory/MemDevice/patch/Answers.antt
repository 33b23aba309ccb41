use Rattle.std.specs.Prelude.{is_err}
use Rattle.std.proofs.Common.{rules, false, sym, ◌≡◌, ◌<◌, ◌+◌, ◌≤◌, length, subst, ◌∙◌, refl}
use Rattle.xv_base.specs.Units.{units, size, place}
use Rattle.std.proofs.lemmas.List.{with_items_is}
use Rattle.std.specs.Vec.{with_items}
use Rattle.xv_device.specs.Memory.{Device, told}
use Rattle.xv_device.specs.Told.{IsSized}
use Rattle.xv_device.proofs.Sized.{whole-sized}
use Rattle.xv_device.specs.Device.{patched}
use Rattle.xv_device.proofs.Pieces.{place-fits, place-small, one_more_write, pieces-patched}
use Rattle.xv_device.proofs.memory.MemDevice.patch.Goals as goal

pub overflow_add-at : goal.overflow_add-at
overflow_add-at c =
    let unit : c.args.unit.0 < units c.self.inside.layout = subst (λ (d : Device). c.args.unit.0 < units d.shape) (sym c.self.view_is) c.requires.unit_in in
    let range : c.args.offset + length c.args.bytes.now ≤ size c.self.inside.layout c.args.unit.0 = subst (λ (d : Device). c.args.offset + length c.args.bytes.now ≤ size d.shape c.args.unit.0) (sym c.self.view_is) c.requires.range_in in
    let small = place-small _ c.self.invariant.good _ _ _ unit range in
    rw c.place.ensures.exactly (search rules)

pub copy_in-requires : goal.copy_in-requires
copy_in-requires c =
    let unit : c.args.unit.0 < units c.self.inside.layout = subst (λ (d : Device). c.args.unit.0 < units d.shape) (sym c.self.view_is) c.requires.unit_in in
    let range : c.args.offset + length c.args.bytes.now ≤ size c.self.inside.layout c.args.unit.0 = subst (λ (d : Device). c.args.offset + length c.args.bytes.now ≤ size d.shape c.args.unit.0) (sym c.self.view_is) c.requires.range_in in
    rw (c.place.ensures.exactly, c.deref_mut.ensures.value, c.self.invariant.all_there) (place-fits _ c.self.invariant.good _ _ _ unit range)

pub returns-clause-after : goal.returns-clause-after
returns-clause-after c =
    let unit : c.args.unit.0 < units c.self.inside.layout = subst (λ (d : Device). c.args.unit.0 < units d.shape) (sym c.self.view_is) c.requires.unit_in in
    let range : c.args.offset + length c.args.bytes.now ≤ size c.self.inside.layout c.args.unit.0 = subst (λ (d : Device). c.args.offset + length c.args.bytes.now ≤ size d.shape c.args.unit.0) (sym c.self.view_is) c.requires.range_in in
    let bytes = pieces-patched _ c.self.invariant.good c.self.inside.bytes.items c.args.bytes.now _ _ c.self.invariant.all_there unit range in
    let writes = one_more_write _ _ _ _ c.self.invariant.counted_each unit c.index_mut.ensures.value in
    let held : (with_items c.self.inside.bytes c.copy_in.new.bytes).items ≡ patched (place c.self.inside.layout c.args.unit.0 + c.args.offset) c.args.bytes.now c.self.inside.bytes.items =
    with_items_is c.self.inside.bytes c.copy_in.new.bytes (c.copy_in.auto.bytes ∙ c.deref_mut.ensures.len)
    ∙ (rw (← c.place.ensures.exactly, ← c.deref_mut.ensures.value) c.copy_in.ensures) in
    let ok : is_err c.begin.result ≡ false = search rules in
    rw (← c.self.view_is, held, bytes, writes, c.begin.ensures.after, ok) refl

pub returns-clause-sized : goal.returns-clause-sized
returns-clause-sized c = subst (λ (d : Device). IsSized (told d)) c.self.view_is (whole-sized _ _ _ c.self.invariant c.self.inside.reading c.self.inside.writing c.self.inside.flushing)

pub returns-in_err-begin-clause-sized : goal.returns-in_err-begin-clause-sized
returns-in_err-begin-clause-sized c =
    subst (λ (d : Device). IsSized (told d)) c.self.view_is (whole-sized _ _ _ c.self.invariant c.self.inside.reading c.self.inside.writing c.self.inside.flushing)

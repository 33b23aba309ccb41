use Rattle.std.proofs.Common.{rules, sym, ◌<◌, ◌+◌, ◌≤◌, length, subst}
use Rattle.xv_base.specs.Units.{units, size}
use Rattle.xv_device.specs.Memory.{Device, told}
use Rattle.xv_device.specs.Told.{IsSized}
use Rattle.xv_device.proofs.Sized.{whole-sized}
use Rattle.xv_device.proofs.Pieces.{place-fits, place-small, part-read}
use Rattle.xv_device.proofs.memory.MemDevice.read.Goals as goal

pub overflow_add-at : goal.overflow_add-at
overflow_add-at c =
    let unit : c.args.unit.0 < units c.self.inside.layout = subst (λ (d : Device). c.args.unit.0 < units d.shape) (sym c.self.view_is) c.requires.unit_in in
    let range : c.args.offset + length c.args.into.now ≤ size c.self.inside.layout c.args.unit.0 = subst (λ (d : Device). c.args.offset + length c.args.into.now ≤ size d.shape c.args.unit.0) (sym c.self.view_is) c.requires.range_in in
    let small = place-small _ c.self.invariant.good _ _ _ unit range in
    rw c.place.ensures.exactly (search rules)

pub copy_out-requires : goal.copy_out-requires
copy_out-requires c =
    let unit : c.args.unit.0 < units c.self.inside.layout = subst (λ (d : Device). c.args.unit.0 < units d.shape) (sym c.self.view_is) c.requires.unit_in in
    let range : c.args.offset + length c.args.into.now ≤ size c.self.inside.layout c.args.unit.0 = subst (λ (d : Device). c.args.offset + length c.args.into.now ≤ size d.shape c.args.unit.0) (sym c.self.view_is) c.requires.range_in in
    rw (c.place.ensures.exactly, c.deref.ensures.value, c.self.invariant.all_there) (place-fits _ c.self.invariant.good _ _ _ unit range)

pub returns-clause-gives : goal.returns-clause-gives
returns-clause-gives c =
    let unit : c.args.unit.0 < units c.self.inside.layout = subst (λ (d : Device). c.args.unit.0 < units d.shape) (sym c.self.view_is) c.requires.unit_in in
    let range : c.args.offset + length c.args.into.now ≤ size c.self.inside.layout c.args.unit.0 = subst (λ (d : Device). c.args.offset + length c.args.into.now ≤ size d.shape c.args.unit.0) (sym c.self.view_is) c.requires.range_in in
    rw (c.copy_out.ensures, c.place.ensures.exactly, c.deref.ensures.value, ← c.self.view_is) (part-read _ _ _ _ _ unit range)

pub returns-clause-sized : goal.returns-clause-sized
returns-clause-sized c = subst (λ (d : Device). IsSized (told d)) c.self.view_is (whole-sized _ _ _ c.self.invariant c.self.inside.reading c.self.inside.writing c.self.inside.flushing)

pub returns-in_err-begin-clause-sized : goal.returns-in_err-begin-clause-sized
returns-in_err-begin-clause-sized c =
    subst (λ (d : Device). IsSized (told d)) c.self.view_is (whole-sized _ _ _ c.self.invariant c.self.inside.reading c.self.inside.writing c.self.inside.flushing)

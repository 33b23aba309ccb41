use Rattle.std.specs.Prelude.{length}
use Rattle.std.proofs.Common.{refl, arith}
use Rattle.xv_source.proofs.OneDisk.{in-copies, numbers-of, unit-at}
use Rattle.xv_source.proofs.Advancing.{may-go, units-within, sizes-within, copy-moved, kept-made, went-off}
use Rattle.xv_source.proofs.KeptBy.{kept-copy, copy-at}
use Rattle.xv_source.proofs.source.SourceHalf.send_off.Goals as goal

pub pass-requires-clause-units_in : goal.pass-requires-clause-units_in
pass-requires-clause-units_in g c =
    let h = c.self.inside in
    let k = c.self.invariant in
    let copy = c.index_mut-copy.result.now in
    let lt = in-copies _ _ h.disks.items c.args.disk c.self.view_is refl c.requires.disk_in in
    let may = may-go c.args.self.now c.args.disk copy c.requires.goes_on (numbers-of _ _ h.disks.items c.args.disk copy c.self.view_is refl c.requires.disk_in c.index_mut-copy.ensures.value) c.read-count.ensures.within in
    units-within h.layout h.config.region c.args.disk c.unit_of_block-first.result.0 copy h.outbox k.outbox_of.0
    (unit-at h.layout h.layout c.args.disk _ _ _ c.unit_of_block-first.ensures.exactly refl c.cursor.ensures.exactly)
    (copy-at h.layout h.config _ h.disks.items h.dirty h.to_send h.outbox h.credit h.unit.items c.args.disk copy k lt c.index_mut-copy.ensures.value)
    (omega (arith, lt, k.each_disk)) may.some may.all

pub pass-requires-clause-sizes : goal.pass-requires-clause-sizes
pass-requires-clause-sizes g c =
    let h = c.self.inside in
    let k = c.self.invariant in
    let copy = c.index_mut-copy.result.now in
    let lt = in-copies _ _ h.disks.items c.args.disk c.self.view_is refl c.requires.disk_in in
    let may = may-go c.args.self.now c.args.disk copy c.requires.goes_on (numbers-of _ _ h.disks.items c.args.disk copy c.self.view_is refl c.requires.disk_in c.index_mut-copy.ensures.value) c.read-count.ensures.within in
    sizes-within h.layout h.config.region c.args.disk c.unit_of_block-first.result.0 copy h.outbox k.outbox_of.0
    (unit-at h.layout h.layout c.args.disk _ _ _ c.unit_of_block-first.ensures.exactly refl c.cursor.ensures.exactly)
    (copy-at h.layout h.config _ h.disks.items h.dirty h.to_send h.outbox h.credit h.unit.items c.args.disk copy k lt c.index_mut-copy.ensures.value)
    (omega (arith, lt, k.each_disk)) may.some may.all

pub invariant_of-self : goal.invariant_of-self
invariant_of-self g c =
    let h = c.self.inside in
    let k = c.self.invariant in
    let copy = c.index_mut-copy.result.now in
    let lt = in-copies _ _ h.disks.items c.args.disk c.self.view_is refl c.requires.disk_in in
    let bs = copy.region.read in
    kept-made h.layout h.config _ _ h.dirty h.to_send h.outbox c.pass.new.outbox h.credit h.unit.items c.unit_of_block-first.result.0 c.args.at bs (length bs)
    (kept-copy h.layout h.config _ _ h.disks.items h.dirty h.to_send h.outbox h.credit h.unit.items c.args.disk _ k refl
    (copy-moved h.layout h.config.region c.args.disk copy c.pass.new.region
    (copy-at h.layout h.config _ h.disks.items h.dirty h.to_send h.outbox h.credit h.unit.items c.args.disk copy k lt c.index_mut-copy.ensures.value) c.pass.ensures.behind))
    c.pass.ensures.made

pub returns-clause-sent : goal.returns-clause-sent
returns-clause-sent g c =
    let copy = c.index_mut-copy.result.now in
    let same = numbers-of _ _ c.self.inside.disks.items c.args.disk copy c.self.view_is refl c.requires.disk_in c.index_mut-copy.ensures.value in
    went-off _ _ c.self.inside.disks.items c.args.disk copy c.pass.new.region c.self.inside.outbox c.pass.new.outbox c.unit_of_block-first.result.0 c.args.at
    c.self.view_is refl refl refl refl refl c.requires.disk_in c.index_mut-copy.ensures.value
    (may-go c.args.self.now c.args.disk copy c.requires.goes_on same c.read-count.ensures.within).all
    (unit-at c.self.inside.layout c.self.inside.layout c.args.disk _ _ _ c.unit_of_block-first.ensures.exactly refl c.cursor.ensures.exactly)
    c.pass.ensures.made c.pass.ensures.behind

use Rattle.std.specs.Prelude.{length}
use Rattle.std.proofs.Common.{refl, ap, sym, ◌∙◌}
use Rattle.std.proofs.lemmas.Result.{on_err_weaker}
use Rattle.xv_device.specs.Told.{Told}
use Rattle.xv_base.specs.Units.{block_size}
use Rattle.xv_source.specs.Half.{Source}
use Rattle.xv_region.specs.Copying.{block}
use Rattle.xv_source.proofs.OneDisk.{in-copies}
use Rattle.xv_source.proofs.KeptBy.{kept-copy, copy-at, copy-same}
use Rattle.xv_source.proofs.Reading.{region-same, block-given, block-unread}
use Rattle.xv_source.proofs.source.SourceHalf.read_block.Goals as goal

pub invariant_of-self : goal.invariant_of-self
invariant_of-self g c =
    let h = c.self.inside in
    let copy = c.index_mut-copy.result.now in
    kept-copy h.layout h.config _ _ h.disks.items h.dirty h.to_send h.outbox h.credit h.unit.items c.args.disk _ c.self.invariant
    (ap (λ (t : Told). t.shape) c.read_next.ensures.made.told)
    (copy-same h.layout h.config.region c.args.disk copy c.read_next.new.region
    (copy-at h.layout h.config _ h.disks.items h.dirty h.to_send h.outbox h.credit h.unit.items c.args.disk copy c.self.invariant
    (in-copies _ _ h.disks.items c.args.disk c.self.view_is refl c.requires.disk_in) c.index_mut-copy.ensures.value)
    (region-same c.read_next.result copy.region c.read_next.new.region (block c.read_next.new.region (length copy.region.read)) c.read_next.ensures.read c.read_next.ensures.failed))

pub returns-clause-read : goal.returns-clause-read
returns-clause-read g c =
    let h = c.self.inside in
    let copy = c.index_mut-copy.result.now in
    block-given _ _ h.disks.items c.args.disk copy c.read_next.new.region _ _ c.read_next.result (block c.read_next.new.region (length copy.region.read)) c.args.unit.0
    c.self.view_is refl refl c.requires.disk_in c.index_mut-copy.ensures.value c.requires.unit_is
    ((copy-at h.layout h.config _ h.disks.items h.dirty h.to_send h.outbox h.credit h.unit.items c.args.disk copy c.self.invariant
    (in-copies _ _ h.disks.items c.args.disk c.self.view_is refl c.requires.disk_in) c.index_mut-copy.ensures.value).size
    ∙ ap (λ (s : Source). block_size s.shape.disks c.args.disk) c.self.view_is ∙ sym c.requires.size)
    c.read_next.ensures.read c.read_next.ensures.gives

pub returns-clause-failed : goal.returns-clause-failed
returns-clause-failed g c =
    on_err_weaker c.read_next.result
    (block-unread _ _ c.self.inside.disks.items c.args.disk c.index_mut-copy.result.now c.read_next.new.region _ _ c.self.view_is refl refl c.requires.disk_in c.index_mut-copy.ensures.value)
    c.read_next.ensures.failed

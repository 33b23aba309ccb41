use Rattle.std.proofs.Common.{◌≡◌, refl, ap, ◌∙◌}
use Rattle.xv_base.specs.Units.{blocks}
use Rattle.xv_model.specs.View.{no_disk, is_copied}
use Rattle.std.specs.Prelude.{get_or}
use Rattle.xv_source.specs.Half.{Source}
use Rattle.xv_source.specs.Kept.{numbers_of}
use Rattle.xv_source.proofs.OneDisk.{each-seen}
use Rattle.xv_source.proofs.AllDisks.{copied-test, copied-none, copied-here}
use Rattle.xv_source.proofs.source.SourceHalf.all_copied.Goals as goal

pub returns-then-not-is_copied : goal.returns-then-not-is_copied
returns-then-not-is_copied g c =
    let h = c.args.self.now in
    let d = c.loop-disk.disk in
    let each = each-seen _ h c.self.inside.disks.items c.self.view_is refl c.self.invariant.each_disk in
    let test : is_copied (blocks h.shape.disks d) (get_or h.disks d no_disk) ≡ c.is_copied.result =
    copied-test c.self.inside.layout.disks h.shape.disks d c.blocks-in-loop-disk.result (numbers_of c.copy.result.now) _ _ c.copy.ensures.numbers c.blocks-in-loop-disk.ensures.exactly (ap (λ (o : Source). o.shape.disks) c.self.view_is) c.is_copied.ensures in
    copied-none h.shape.disks h.disks d c.loop-disk.invariant c.copy.ensures.disk_in each (test ∙ c.if-not-is_copied.true)

pub loop-disk-preserved : goal.loop-disk-preserved
loop-disk-preserved g c =
    let h = c.args.self.now in
    let d = c.loop-disk.disk in
    let each = each-seen _ h c.self.inside.disks.items c.self.view_is refl c.self.invariant.each_disk in
    let test : is_copied (blocks h.shape.disks d) (get_or h.disks d no_disk) ≡ c.is_copied.result =
    copied-test c.self.inside.layout.disks h.shape.disks d c.blocks-in-loop-disk.result (numbers_of c.copy.result.now) _ _ c.copy.ensures.numbers c.blocks-in-loop-disk.ensures.exactly (ap (λ (o : Source). o.shape.disks) c.self.view_is) c.is_copied.ensures in
    c.loop-disk.invariant ∙ copied-here h.shape.disks h.disks d c.copy.ensures.disk_in each (test ∙ c.if-not-is_copied.false)

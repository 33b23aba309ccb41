use Rattle.std.specs.Prelude.{◌≡◌, false, length}
use Rattle.std.proofs.Common.{refl, sym, ap, ◌∙◌, arith}
use Rattle.xv_base.specs.Units.{Shape, is_page, disk_of}
use Rattle.xv_base.proofs.Partition.{numbers_blocks}
use Rattle.xv_model.proofs.Layouts.{block_above}
use Rattle.xv_source.specs.Half.{Source}
use Rattle.xv_source.proofs.OneDisk.{each-seen}
use Rattle.xv_source.proofs.source.SourceHalf.own_side.Goals as goal

pub copy-copy-requires : goal.copy-copy-requires
copy-copy-requires g c =
    let s = c.args.self.now.shape in
    let same : c.self.inside.layout ≡ s = ap (λ (h : Source). h.shape) c.self.view_is in
    let block : is_page s c.args.unit.0 ≡ false = ap (λ (x : Shape). is_page x c.args.unit.0) (sym same) ∙ sym c.is_page.ensures.exactly ∙ c.if-is_page.false in
    let each : length c.args.self.now.disks ≡ length s.disks = each-seen _ c.args.self.now c.self.inside.disks.items c.self.view_is refl c.self.invariant.each_disk in
    let found : c.disk_of.result ≡ disk_of s c.args.unit.0 = c.disk_of.ensures.exactly ∙ ap (λ (x : Shape). disk_of x c.args.unit.0) same in
    omega (arith, each, found, (numbers_blocks s).disk_in c.args.unit.0 (block_above s c.args.unit.0 block) c.requires)

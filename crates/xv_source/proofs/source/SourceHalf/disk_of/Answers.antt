use Rattle.std.proofs.Common.{◌≡◌, ◌<◌, ◌∙◌, ap, sym, subst, false, arith, length}
use Rattle.std.proofs.lemmas.List.{length-map}
use Rattle.xv_base.specs.Units.{units, is_page}
use Rattle.xv_model.proofs.Layouts.{disk_in}
use Rattle.xv_source.specs.Half.{Source}
use Rattle.xv_source.specs.Kept.{numbers_of}
use Rattle.xv_source.proofs.source.SourceHalf.disk_of.Goals as goal

pub returns-clause-disk_in : goal.returns-clause-disk_in
returns-clause-disk_in g c =
    let s = c.self.inside.layout in
    let unit_in : c.args.unit.0 < units s = subst (λ (h : Source). c.args.unit.0 < units h.shape) (sym c.self.view_is) c.requires.unit_in in
    let block : is_page s c.args.unit.0 ≡ false = ap (λ (h : Source). is_page h.shape c.args.unit.0) c.self.view_is ∙ c.requires.block in
    let there = disk_in s c.args.unit.0 block unit_in in
    omega (arith, c.disk_of.ensures.exactly, c.self.invariant.each_disk, length-map c.self.inside.disks.items numbers_of, ap (λ (h : Source). length h.disks) c.self.view_is)

use Rattle.std.proofs.Common.{◌≡◌, ◌≤◌, ◌^◌, arith, ap, take}
use Rattle.xv_base.specs.Units.{Shape, blocks_of, units}
use Rattle.xv_base.proofs.Sums.{blocks_of-take}
use Rattle.xv_base.proofs.Within.{good_within}
use Rattle.xv_base.proofs.layout.Layout.unit_of_block.Goals as goal

pub overflow_cast-result : goal.overflow_cast-result
overflow_cast-result c =
    let s = c.args.self.now in
    let here : c.count_blocks-before.result ≡ blocks_of (take c.args.disk s.disks) = rw (← c.shapes.ensures.disks) c.count_blocks-before.ensures.exactly in
    let all : units s ≤ 2 ^ 20 = (good_within _ c.shapes.ensures.good).few_units in
    omega (arith, here, all, blocks_of-take s.disks c.args.disk c.requires.disk_in)

pub overflow_add-result : goal.overflow_add-result
overflow_add-result c =
    let s = c.args.self.now in
    let here : c.count_blocks-before.result ≡ blocks_of (take c.args.disk s.disks) = rw (← c.shapes.ensures.disks) c.count_blocks-before.ensures.exactly in
    let all : units s ≤ 2 ^ 20 = (good_within _ c.shapes.ensures.good).few_units in
    let pages = ap (λ (s : Shape). s.pages) c.self.view_is in
    omega (arith, here, all, pages, blocks_of-take s.disks c.args.disk c.requires.disk_in)

pub overflow_add-result-2 : goal.overflow_add-result-2
overflow_add-result-2 c =
    let s = c.args.self.now in
    let here : c.count_blocks-before.result ≡ blocks_of (take c.args.disk s.disks) = rw (← c.shapes.ensures.disks) c.count_blocks-before.ensures.exactly in
    let all : units s ≤ 2 ^ 20 = (good_within _ c.shapes.ensures.good).few_units in
    let pages = ap (λ (s : Shape). s.pages) c.self.view_is in
    omega (arith, here, all, pages, blocks_of-take s.disks c.args.disk c.requires.disk_in, c.requires.block_in)

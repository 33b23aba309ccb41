use Rattle.std.proofs.Common.{arith, ◌≤◌, length, sym}
use Rattle.std.proofs.lemmas.List.{length-take-le}
use Rattle.xv_base.proofs.Partition.{has_greatest_size}
use Rattle.xv_filedev.proofs.files.lay.Goals as goal

pub slice_bounds-content-end : goal.slice_bounds-content-end
slice_bounds-content-end c = omega (arith, (has_greatest_size c.args.layout.now c.size.ensures.good).most c.args.first.unit.0 c.requires.within)

pub slice_bounds-content-end-2 : goal.slice_bounds-content-end-2
slice_bounds-content-end-2 c =
    let within : c.size.result ≤ length c.args.unit.now = omega (arith, (has_greatest_size c.args.layout.now c.size.ensures.good).most c.args.first.unit.0 c.requires.within) in
    sym (length-take-le c.size.result c.args.unit.now within)

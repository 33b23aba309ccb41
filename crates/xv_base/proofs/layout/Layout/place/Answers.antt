use Rattle.std.proofs.Common.{arith, ap, ◌-◌, ◌*◌}
use Rattle.xv_base.specs.Units.{Shape}
use Rattle.xv_base.proofs.Sums.{bytes_before-bytes_of}
use Rattle.xv_base.proofs.Within.{good_within}
use Rattle.xv_base.proofs.layout.Layout.place.Goals as goal

pub overflow_add-result : goal.overflow_add-result
overflow_add-result c =
    let all = (good_within _ c.spot.ensures.good).few_bytes in
    let pages = ap (λ (s : Shape). s.pages * s.page_size) c.self.view_is in
    omega (arith, all, pages, c.spot.ensures.place, bytes_before-bytes_of c.args.self.now.disks (c.args.unit.0 - c.args.self.now.pages))

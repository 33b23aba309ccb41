use Rattle.std.proofs.Common.{rules, refl, ◌≡◌, replicate, ◌*◌}
use Rattle.xv_region.proofs.Places.{first_zeros}
use Rattle.xv_region.proofs.region.Region.new.Goals as goal

pub returns : goal.returns
returns c =
    let zeros : c.in-Ok.bytes.items ≡ replicate (c.args.most * c.args.unit_size) 0 = search rules in
    rw (zeros, first_zeros c.args.most c.args.unit_size _ c.requires refl) refl

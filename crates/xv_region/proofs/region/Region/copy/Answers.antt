use Rattle.std.proofs.Common.{ℕ, ◌*◌, ◌<◌, length, take, drop, List, sym, ap, ◌∙◌, subst, arith}
use Rattle.xv_region.specs.Copying.{Copying, places_of}
use Rattle.xv_region.proofs.Places.{place_read, place_fits, place_at, length_place}
use Rattle.xv_region.proofs.region.Region.copy.Goals as goal

pub part-requires : goal.part-requires
part-requires c =
    let there : c.args.i < length (places_of c.self.inside.unit_size c.self.inside.bytes.items c.self.inside.read) = subst (λ (v : Copying). c.args.i < length v.read) (sym c.self.view_is) c.requires in
    let here = place_read _ _ _ _ there in
    omega (arith, place_fits _ _ c.self.inside.unit_size c.args.i c.self.invariant.all_there (omega (arith, here, c.self.invariant.fits, c.self.invariant.read_within)), ap length c.deref.ensures.value)

pub returns : goal.returns
returns c =
    let there : c.args.i < length (places_of c.self.inside.unit_size c.self.inside.bytes.items c.self.inside.read) = subst (λ (v : Copying). c.args.i < length v.read) (sym c.self.view_is) c.requires in
    let here = place_read _ _ _ _ there in
    let fits = place_fits _ _ c.self.inside.unit_size c.args.i c.self.invariant.all_there (omega (arith, here, c.self.invariant.fits, c.self.invariant.read_within)) in
    let is = c.part.ensures ∙ ap (λ (b : List ℕ). take c.self.inside.unit_size (drop (c.args.i * c.self.inside.unit_size) b)) c.deref.ensures.value in
    rw (← c.self.view_is) (record {
      exactly = is ∙ sym (place_at _ _ _ _ _ here);
      size = ap length is ∙ length_place _ _ _ fits;
    })

use Rattle.std.proofs.Common.{ℕ, ◌*◌, ◌<◌, length, take, drop, refl, sym, ap, ◌∙◌, subst, arith}
use Rattle.xv_region.specs.Copying.{Copying, with_next, places_of}
use Rattle.xv_region.proofs.Places.{place_left, place_fits, lent, refill_whole}
use Rattle.xv_region.proofs.region.Region.buffer.Goals as goal

pub slice_mut-requires-clause-in_bounds : goal.slice_mut-requires-clause-in_bounds
slice_mut-requires-clause-in_bounds c =
    let left : length (places_of c.self.inside.unit_size c.self.inside.bytes.items c.self.inside.read) < c.self.inside.length = subst (λ (v : Copying). length v.read < v.region) (sym c.self.view_is) c.requires in
    let here = place_left _ _ _ c.self.inside.bytes.items _ left c.self.invariant.fits in
    omega (arith, place_fits _ _ c.self.inside.unit_size _ c.self.invariant.all_there here)

pub returns : goal.returns
returns c =
    let left : length (places_of c.self.inside.unit_size c.self.inside.bytes.items c.self.inside.read) < c.self.inside.length = subst (λ (v : Copying). length v.read < v.region) (sym c.self.view_is) c.requires in
    let here = place_left _ _ _ c.self.inside.bytes.items _ left c.self.invariant.fits in (
      (refl, λ w. lent _ _ _ _ _ _ c.self.inside.bytes.items w c.self.inside.bytes.ok.0 c.self.invariant.all_there here ∙ ap (λ (v : Copying). with_next v w) c.self.view_is),
      record {
        writes_back = tt;
        value = rw (← c.self.view_is) (c.slice_mut.ensures.value ∙ ap (λ (n : ℕ). take n (drop (c.self.inside.read * c.self.inside.unit_size) c.self.inside.bytes.items)) (omega arith));
        size = rw (← c.self.view_is) (c.slice_mut.ensures.len ∙ omega arith);
        filled = λ bytes h. refill_whole _ _ _ h;
      },
    )

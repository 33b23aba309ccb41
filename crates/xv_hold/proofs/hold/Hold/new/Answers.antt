use Rattle.std.proofs.Common.{rules, ◌≡◌, ◌+◌, ◌<◌, ◌^◌, ◌∙◌, replicate, None, ap}
use Rattle.xv_base.specs.Units.{units, max_size}
use Rattle.xv_slots.specs.Row.{empty}
use Rattle.xv_hold.proofs.Fresh.{fresh-kept}
use Rattle.xv_hold.proofs.hold.Hold.new.Goals as goal

pub invariant_of-result : goal.invariant_of-result
invariant_of-result c =
    let slots : c.in-Ok.slots.items ≡ replicate c.args.limit None = search rules in
    let links : c.in-Ok-from_elem.links.items ≡ replicate (c.args.limit + units c.args.layout.now) None = search rules in
    let ends : c.in-Ok-from_elem-2.ends.items ≡ replicate (units c.args.layout.now) None = search rules in
    let applied : c.in-Ok-from_elem-3.applied.items ≡ replicate (units c.args.layout.now) 0 = search rules in
    let counts : c.in-Ok-from_elem-5.counts.items ≡ replicate (units c.args.layout.now) 0 = search rules in
    let recorded : c.in-Ok-from_elem-4.recorded.items ≡ replicate (units c.args.layout.now) 0 = search rules in
    let row : c.in_ok-contents.contents ≡ empty c.args.limit (max_size c.args.layout.now) = c.in_ok-contents.ensures ∙ ap (empty c.args.limit) c.max_size.ensures.exactly in
    let small : c.args.limit < 2 ^ 32 = search rules in
    (rw (slots, links, ends, applied, recorded, counts, row, c.in_ok-ready.ensures, c.in_ok-free.ensures.all) (fresh-kept c.args.layout.now c.args.limit c.units-units.ensures.good small), c.in_ok-free.ensures.room)

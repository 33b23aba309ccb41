use Rattle.std.proofs.Common.{◌≡◌, ◌+◌, ◌-◌, ◌<◌, length, sym, ap, ◌∙◌, arith}
use Rattle.std.proofs.lemmas.List.{get_or_default, drop_all, length-replicate}
use Rattle.xv_base.specs.Units.{size, all_bytes, place}
use Rattle.xv_device.specs.Memory.{no_init, first_contents}
use Rattle.xv_device.proofs.Places.{within}
use Rattle.xv_device.proofs.Filling.{pieces-zeros, filled-more}
use Rattle.xv_device.proofs.memory.fill_units.Goals as goal

pub loop-k-init : goal.loop-k-init
loop-k-init c =
    pieces-zeros _ c.requires.good _ c.requires.zeros
    ∙ ap (first_contents c.args.layout.now) (sym (drop_all (length c.args.init.now) c.args.init.now (omega arith)))

pub fill_in-requires : goal.fill_in-requires
fill_in-requires c =
    let there : c.loop-k.k - 1 < length c.args.init.now = omega (arith, c.loop-k.auto.k, c.loop-k-test.true) in
    let same = get_or_default c.args.init.now (c.loop-k.k - 1) c.index-init-k.result no_init there in
    let at = c.place-at.ensures.exactly ∙ ap (λ i. place c.args.layout.now i.unit.0) same in
    let count = c.size.ensures.exactly ∙ ap (λ i. size c.args.layout.now i.unit.0) same in
    let all = c.loop-k.auto.bytes ∙ ap length c.requires.zeros ∙ length-replicate (all_bytes c.args.layout.now) 0 in
    omega (arith, at, count, all, within _ c.requires.good _ (c.requires.in_range _ there))

pub loop-k-preserved : goal.loop-k-preserved
loop-k-preserved c =
    let there : c.loop-k.k - 1 < length c.args.init.now = omega (arith, c.loop-k.auto.k, c.loop-k-test.true) in
    let same = get_or_default c.args.init.now (c.loop-k.k - 1) c.index-init-k.result no_init there in
    let same' = get_or_default c.args.init.now (c.loop-k.k - 1) c.index-init-k-in-loop-k.result no_init there in
    let at = c.place-at.ensures.exactly ∙ ap (λ i. place c.args.layout.now i.unit.0) same in
    let count = c.size.ensures.exactly ∙ ap (λ i. size c.args.layout.now i.unit.0) same in
    let all = c.loop-k.auto.bytes ∙ ap length c.requires.zeros ∙ length-replicate (all_bytes c.args.layout.now) 0 in
    let next : c.loop-k.k - 1 + 1 ≡ c.loop-k.k = omega (arith, c.loop-k-test.true) in
    rw (c.fill_in.ensures, at, count, same')
    (filled-more _ c.requires.good _ _ _ _ all there next (c.requires.in_range _ there) c.loop-k.invariant)

use Rattle.std.proofs.Common.{◌≡◌, ℕ, ◌+◌, ◌-◌, ◌≤◌, length, take, drop, ap, ◌∙◌, arith, subst, length-drop}
use Rattle.std.proofs.lemmas.List.{length-take, take_at}
use Rattle.xv_wire.specs.Told.{Told}
use Rattle.xv_streams.proofs.Takes.{Taking, taking-more}
use Rattle.xv_streams.proofs.FillsMore.{gathers-more}
use Rattle.xv_streams.proofs.filling.fill.Goals as goal

pub loop-count-preserved : goal.loop-count-preserved
loop-count-preserved g c =
    let h = c.loop-count.invariant in
    let t = g.W.Wire.told c.args.wire.now in
    let now = g.W.Wire.told c.loop-count.wire in
    let n : ℕ = c.loop-count.count - c.args.have in
    let m = c.in-Ok.moved in
    let left : now.transit ≡ drop n t.transit = ap (λ (s : Told). s.transit) h.taking.told in
    let long : length now.transit ≡ length t.transit - n = ap length left ∙ length-drop n t.transit in
    let most : m ≤ c.args.want - c.loop-count.count = omega (arith, c.in-Ok.ensures.most, length-take (c.args.want - c.loop-count.count) (drop c.loop-count.count c.loop-count.buffer)) in
    let there : m ≤ length now.transit = omega (arith, c.in-Ok.ensures.most) in
    let within : m ≤ length c.take.new.into = omega (arith, c.in-Ok.ensures.most, c.take.auto.into) in
    let front : length (take m now.transit) ≡ m = omega (arith, there, length-take m now.transit) in
    let gives : take m c.take.new.into ≡ take m now.transit = grind (arith, c.in-Ok.ensures.gives, take_at (take m now.transit) (drop m (take (c.args.want - c.loop-count.count) (drop c.loop-count.count c.loop-count.buffer))) m front) in
    let same : n + m ≡ c.loop-count.count + m - c.args.have = omega (arith, h.more) in
    let fits : c.args.want ≤ length c.loop-count.buffer = omega (arith, c.loop-count.auto.buffer, c.requires.room) in
    let took = taking-more m n (c.args.want - c.args.have) t now (g.W.Wire.told c.take.new.self) (g.W.Wire.faults c.args.wire.now) (g.W.Wire.faults c.loop-count.wire) (g.W.Wire.faults c.take.new.self)
    h.taking (omega (arith, h.more, c.loop-count-test.true)) h.there c.in-Ok.ensures.made in
    record {
      more = omega (arith, h.more);
      most = omega (arith, most, c.loop-count-test.true);
      there = omega (arith, h.more, there, long, h.there);
      gathered = gathers-more c.args.have c.loop-count.count c.args.want m c.args.buffer.now c.loop-count.buffer c.take.new.into t.transit now.transit
          h.more (omega (arith, most, c.loop-count-test.true)) fits within h.gathered left gives;
      taking = subst (λ (k : ℕ). Taking k (c.args.want - c.args.have) t (g.W.Wire.told c.take.new.self) (g.W.Wire.faults c.args.wire.now) (g.W.Wire.faults c.take.new.self)) same took;
    }

use Rattle.std.proofs.Common.{ap, arith}
use Rattle.xv_base.specs.Units.{Shape, units}
use Rattle.xv_top.specs.Driven.{agreeing}
use Rattle.xv_top.proofs.Agreeing.{one-compared, one-at_most}
use Rattle.xv_top.proofs.driving.agreeing.Goals as goal

pub loop-unit-preserved : goal.loop-unit-preserved
loop-unit-preserved c =
    let device = c.args.device.now in
    let plain = c.args.plain.now in
    record {
      left = one-compared device.contents plain.contents c.content.result.now c.content-in-loop-unit.result.now c.loop-unit.unit (units device.shape) c.loop-unit.count c.from-count.result (agreeing (units device.shape) device.contents plain.contents) c.eq.result
          (omega (arith, c.loop-unit-test.true, c.units-unit-end.ensures.exactly, ap (λ (s : Shape). units s) c.layout.ensures.exactly)) c.content.ensures.exactly c.content-in-loop-unit.ensures c.eq.ensures c.from-count.ensures c.loop-unit.invariant.left;
      few = omega (arith, c.loop-unit.invariant.few, one-at_most c.from-count.result c.eq.result c.from-count.ensures);
    }

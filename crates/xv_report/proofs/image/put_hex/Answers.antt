use Rattle.std.proofs.Common.{arith, refl}
use Rattle.xv_report.proofs.Digits.{digits_more, sixteen_more}
use Rattle.xv_report.proofs.image.put_hex.Goals as goal

pub loop-i-preserved : goal.loop-i-preserved
loop-i-preserved c =
    digits_more c.args.bytes.now c.loop-i.digits _ c.loop-i.i c.hex_digit.result c.hex_digit-in-loop-i.result (omega arith) c.loop-i.invariant.0 c.loop-i.invariant.1 c.hex_digit.ensures c.hex_digit-in-loop-i.ensures refl

pub loop-done-preserved : goal.loop-done-preserved
loop-done-preserved c =
    sixteen_more c.args.bytes.now c.loop-done.digits c.digits_of-lanes.result c.loop-done.done (omega arith) c.loop-done.invariant.1 c.loop-done.invariant.2 c.digits_of-lanes.ensures

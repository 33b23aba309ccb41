use Rattle.std.proofs.Common.{◌+◌, ◌*◌, get_or, arith}
use Rattle.xv_text.specs.Fields.{is_hex_digit}
use Rattle.xv_text.proofs.HexFields.{decoded, all_two_more, digit_tells}
use Rattle.xv_text.proofs.digits.decode.Goals as goal

pub loop-i-preserved : goal.loop-i-preserved
loop-i-preserved c =
    let ds = c.args.digits.now in
    let i = c.loop-i.i in
    let high = digit_tells (get_or ds (2 * i) 0) c.digit_of-high.result c.digit_of-high.ensures c.if-high-gt15.false in
    let low = digit_tells (get_or ds (2 * i + 1) 0) c.digit_of-low.result c.digit_of-low.ensures c.if-low-gt15.false in
    record {
      digits = all_two_more is_hex_digit ds i (omega arith) c.loop-i.invariant.digits high.0 low.0;
      bytes = decoded c.loop-i.into ds i _ _ (omega (arith, c.requires.fits)) (omega arith) high.1 low.1 c.loop-i.invariant.bytes;
    }

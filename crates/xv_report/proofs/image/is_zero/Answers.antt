use Rattle.std.proofs.Common.{arith, refl}
use Rattle.xv_report.proofs.Zeros.{zero_more}
use Rattle.xv_report.proofs.image.is_zero.Goals as goal

pub loop-byte-preserved : goal.loop-byte-preserved
loop-byte-preserved c = zero_more c.args.bytes.now c.loop-byte.byte-index c.loop-byte.joined _ (omega arith) c.loop-byte.invariant refl

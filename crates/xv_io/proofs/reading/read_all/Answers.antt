use Rattle.std.proofs.Common.{arith}
use Rattle.xv_io.proofs.Told.{gave-then}
use Rattle.xv_io.proofs.reading.read_all.Goals as goal

pub returns-in_err-read_more-clause-most : goal.returns-in_err-read_more-clause-most
returns-in_err-read_more-clause-most g c =
    gave-then _ _ _ _ _ _ c.loop-bytes.invariant.0 c.in_err-read_more.ensures.most (omega arith)

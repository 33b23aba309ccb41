use Rattle.std.proofs.Common.{rules}
use Rattle.xv_wire.proofs.Pushing.{none-left}
use Rattle.xv_wire.proofs.pieces.drop_taken.Goals as goal

pub overflow_cast-result-2 : goal.overflow_cast-result-2
overflow_cast-result-2 c =
    let e = none-left c.loop-piece.lengths.items c.loop-piece.left c.in_default.ensures c.loop-piece.invariant.there in
    rw e (search rules)

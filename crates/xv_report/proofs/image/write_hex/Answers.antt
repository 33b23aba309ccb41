use Rattle.std.proofs.Common.{refl, arith, ◌∙◌}
use Rattle.xv_report.proofs.Took.{hex-took, hex-front}
use Rattle.xv_report.proofs.image.write_hex.Goals as goal

pub returns-in_err-write_piece-clause-front : goal.returns-in_err-write_piece-clause-front
returns-in_err-write_piece-clause-front g c =
    hex-front _ _ _ c.args.bytes.now c.loop-done.done c.min-next.result _ (omega arith) (omega arith) c.loop-done.invariant.1 refl c.write_piece.ensures.front

pub loop-done-preserved : goal.loop-done-preserved
loop-done-preserved g c = (
  omega arith,
  hex-took _ _ _ c.args.bytes.now c.loop-done.done c.min-next.result _ (omega arith) (omega arith) c.loop-done.invariant.1 refl c.in_ok-write_piece.ensures.whole,
  c.in_ok-write_piece.ensures.quiet ∙ c.loop-done.invariant.2,
)

use Rattle.std.proofs.Common.{◌∙◌}
use Rattle.xv_io.proofs.Took.{next-within, took-next}
use Rattle.xv_io.proofs.writing.write_text.Goals as goal

pub loop-done-preserved : goal.loop-done-preserved
loop-done-preserved g c = (
  next-within _ _ _ c.loop-done.invariant.0 c.in-Ok.ensures.fits,
  took-next _ _ _ _ _ _ c.loop-done.invariant.1 c.in-Ok.ensures.takes,
  c.in-Ok.ensures.quiet ∙ c.loop-done.invariant.2,
)

use Rattle.std.proofs.Common.{◌∙◌, sym, arith}
use Rattle.xv_core.proofs.Totals.Told.{not-empty, each-empty}
use Rattle.xv_core.proofs.telling.are_empty.Goals as goal

pub returns-then-not-is_empty : goal.returns-then-not-is_empty
returns-then-not-is_empty g c = not-empty c.args.source.now.disks c.loop-disk.disk (omega arith) (sym c.is_empty.ensures ∙ c.if-not-is_empty.true)

pub returns : goal.returns
returns g c = each-empty c.args.source.now.disks (λ k lt. c.loop-disk.invariant k (omega arith))

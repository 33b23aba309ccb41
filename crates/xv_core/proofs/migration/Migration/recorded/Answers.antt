use Rattle.std.proofs.Common.{arith}
use Rattle.xv_core.proofs.Totals.Told.{some-is}
use Rattle.xv_core.proofs.Totals.Issued.{few-in-all}
use Rattle.xv_core.proofs.migration.Migration.recorded.Goals as goal

pub overflow_cast-result : goal.overflow_cast-result
overflow_cast-result g c = omega (arith, some-is _ _ _ c.in-Some.ensures, (few-in-all _ c.self.invariant.0.running).recorded c.args.unit.0)

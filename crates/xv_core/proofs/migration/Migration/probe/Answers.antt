use Rattle.std.proofs.Common.{arith}
use Rattle.xv_core.proofs.Totals.Told.{unit-adds, probe-told}
use Rattle.xv_core.proofs.migration.Migration.probe.Goals as goal

pub overflow_sub-result : goal.overflow_sub-result
overflow_sub-result g c = omega (arith, unit-adds _ c.args.unit.0 c.self.invariant.0.running, c.issued-issued.ensures, c.version-applied.ensures)

pub overflow_sub-result-2 : goal.overflow_sub-result-2
overflow_sub-result-2 g c = omega (arith, unit-adds _ c.args.unit.0 c.self.invariant.0.running, c.issued-issued.ensures, c.version-applied.ensures, c.outbox-outbox.ensures)

pub overflow_sub-result-3 : goal.overflow_sub-result-3
overflow_sub-result-3 g c = omega (arith, unit-adds _ c.args.unit.0 c.self.invariant.0.running, c.issued-issued.ensures, c.version-applied.ensures, c.outbox-outbox.ensures, c.held-held.ensures)

pub returns : goal.returns
returns g c =
    probe-told _ c.args.self.now c.args.unit.0 c.side.result c.issued-issued.result c.version-applied.result c.outbox-outbox.result c.held-held.result
    c.self.invariant.0.running c.self.view_is c.side.ensures c.issued-issued.ensures c.version-applied.ensures c.outbox-outbox.ensures c.held-held.ensures

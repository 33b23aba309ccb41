use Rattle.xv_core.proofs.Keeping.SeenKept.{kept-seen}
use Rattle.xv_core.proofs.migration.Migration.journal.Goals as goal

pub returns-clause-kept : goal.returns-clause-kept
returns-clause-kept g c = kept-seen _ c.args.self.now c.self.invariant.0 c.self.view_is

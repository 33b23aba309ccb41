use Rattle.xv_model.proofs.Journal.Kinds.{run-kinds}
use Rattle.xv_model.proofs.journal_laws.no_entry_waits.Goals as goal

pub returns : goal.returns
returns c = run-kinds

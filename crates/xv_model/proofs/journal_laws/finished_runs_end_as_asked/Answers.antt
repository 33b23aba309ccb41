use Rattle.xv_model.proofs.Journal.Ends.{finished-switched, finished-cancelled}
use Rattle.xv_model.proofs.journal_laws.finished_runs_end_as_asked.Goals as goal

pub returns : goal.returns
returns c = record { switched = finished-switched; cancelled = finished-cancelled }

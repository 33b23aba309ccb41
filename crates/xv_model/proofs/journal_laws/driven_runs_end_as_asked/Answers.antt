use Rattle.xv_model.proofs.Journal.Ends.{driven-switched, driven-cancelled}
use Rattle.xv_model.proofs.journal_laws.driven_runs_end_as_asked.Goals as goal

pub returns : goal.returns
returns c = record { switched = driven-switched; cancelled = driven-cancelled }

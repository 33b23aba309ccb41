use Rattle.xv_model.proofs.Journal.Phases.{phase-told, run-failed, run-cancelled, run-switched}
use Rattle.xv_model.proofs.journal_laws.journal_tells_the_phase.Goals as goal

pub returns : goal.returns
returns c = record { told = phase-told; failed = run-failed; cancelled = run-cancelled; switched = run-switched }

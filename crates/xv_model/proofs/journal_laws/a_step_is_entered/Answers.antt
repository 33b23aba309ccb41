use Rattle.xv_model.proofs.Journal.OneStep.{step-runs, step-view}
use Rattle.xv_model.proofs.journal_laws.a_step_is_entered.Goals as goal

pub returns : goal.returns
returns c = record { runs = step-runs; view = step-view }

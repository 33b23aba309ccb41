use Rattle.xv_model.proofs.Journal.Ends.{history-at_cancel, run-mark}
use Rattle.xv_model.proofs.journal_laws.cancel_comes_at_its_number.Goals as goal

pub returns : goal.returns
returns c = record { history = history-at_cancel; mark = run-mark }

use Rattle.xv_model.proofs.Journal.Guests.{run-done, run-faulted}
use Rattle.xv_model.proofs.journal_laws.outcomes_have_their_entries.Goals as goal

pub returns : goal.returns
returns c = record { done = run-done; faulted = run-faulted }

use Rattle.xv_model.proofs.Journal.Guests.{run-own, run-ended, run-queued}
use Rattle.xv_model.proofs.journal_laws.guests_have_their_entries.Goals as goal

pub returns : goal.returns
returns c = record { own = run-own; ended = run-ended; queued = run-queued }

use Rattle.xv_model.proofs.Journal.Kinds.{journal-within, journal-small}
use Rattle.xv_model.proofs.journal_laws.journal_fits.Goals as goal

pub returns : goal.returns
returns c = record { within = journal-within; small = journal-small }

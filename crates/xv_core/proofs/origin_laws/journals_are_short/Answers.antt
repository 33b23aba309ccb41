use Rattle.xv_core.proofs.Stepped.Origins.{journal-within, journal-small}
use Rattle.xv_core.proofs.origin_laws.journals_are_short.Goals as goal

pub returns : goal.returns
returns c = record { within = journal-within; short = journal-small }

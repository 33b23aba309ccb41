use Rattle.xv_core.proofs.Losing.{reads-told}
use Rattle.xv_core.proofs.losing_laws.steps_read_what_is_told.Goals as goal

pub returns : goal.returns
returns c = reads-told

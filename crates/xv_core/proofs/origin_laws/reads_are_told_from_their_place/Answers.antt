use Rattle.xv_core.proofs.Stepped.ReadOn.{read-on}
use Rattle.xv_core.proofs.origin_laws.reads_are_told_from_their_place.Goals as goal

pub returns : goal.returns
returns c = read-on

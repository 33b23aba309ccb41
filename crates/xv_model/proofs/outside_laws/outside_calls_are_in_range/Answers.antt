use Rattle.xv_model.proofs.Outside.Calls.{parts-within}
use Rattle.xv_model.proofs.outside_laws.outside_calls_are_in_range.Goals as goal

pub returns-clause-parts : goal.returns-clause-parts
returns-clause-parts c = parts-within

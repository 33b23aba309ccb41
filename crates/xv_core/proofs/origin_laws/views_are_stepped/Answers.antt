use Rattle.xv_core.proofs.Stepped.After.{view-after}
use Rattle.xv_core.proofs.origin_laws.views_are_stepped.Goals as goal

pub returns : goal.returns
returns c = view-after

use Rattle.xv_model.proofs.First.{first_view-holds}
use Rattle.xv_model.proofs.laws.first_view_holds.Goals as goal

pub returns : goal.returns
returns c = first_view-holds

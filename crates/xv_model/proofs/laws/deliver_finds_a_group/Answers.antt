use Rattle.xv_model.proofs.Window.{front-some}
use Rattle.xv_model.proofs.laws.deliver_finds_a_group.Goals as goal

pub returns : goal.returns
returns c = front-some

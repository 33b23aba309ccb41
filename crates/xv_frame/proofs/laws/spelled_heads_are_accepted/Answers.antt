use Rattle.xv_frame.proofs.Faultless.{head-accepted}
use Rattle.xv_frame.proofs.laws.spelled_heads_are_accepted.Goals as goal

pub returns : goal.returns
returns c = λ s g h i. head-accepted s h g i

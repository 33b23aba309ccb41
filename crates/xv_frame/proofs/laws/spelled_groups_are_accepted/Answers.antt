use Rattle.xv_frame.proofs.Faultless.{group-accepted}
use Rattle.xv_frame.proofs.laws.spelled_groups_are_accepted.Goals as goal

pub returns : goal.returns
returns c = λ s g ms h. group-accepted s ms g h

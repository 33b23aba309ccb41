use Rattle.xv_frame.proofs.Accepted.{list-back}
use Rattle.xv_frame.proofs.laws.lists_read_back.Goals as goal

pub returns : goal.returns
returns c = λ s g fs h. list-back s fs g h

use Rattle.xv_frame.proofs.Accepted.{one-list}
use Rattle.xv_frame.proofs.laws.bytes_fit_one_list.Goals as goal

pub returns : goal.returns
returns c = λ s g fs gs hf hg e. one-list s fs gs g hf hg e

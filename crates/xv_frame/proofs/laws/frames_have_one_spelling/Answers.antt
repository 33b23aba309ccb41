use Rattle.xv_frame.proofs.Accepted.{one-spelling}
use Rattle.xv_frame.proofs.laws.frames_have_one_spelling.Goals as goal

pub returns : goal.returns
returns c = λ s good f g hf hg xs ys e. one-spelling s f g xs ys good hf hg e

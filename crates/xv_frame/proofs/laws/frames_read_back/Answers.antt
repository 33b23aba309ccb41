use Rattle.xv_frame.proofs.Accepted.{frame-back}
use Rattle.xv_frame.proofs.laws.frames_read_back.Goals as goal

pub returns : goal.returns
returns c = λ s g f h rest. frame-back s f rest g h

use Rattle.xv_frame.proofs.Faultless.{size-at-front}
use Rattle.xv_frame.proofs.laws.heads_tell_size.Goals as goal

pub returns : goal.returns
returns c = λ s g f h rest. size-at-front s f rest g h

use Rattle.xv_handover.specs.Words.{word_of}
use Rattle.xv_handover.proofs.word.word_of.Goals as goal

pub returns : goal.returns
unfolding word_of
returns c = c.first_spelled.ensures

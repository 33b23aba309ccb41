use Rattle.xv_script.specs.Words.{word_of}
use Rattle.xv_script.proofs.word.word_of.Goals as goal

pub returns : goal.returns
unfolding word_of
returns c = c.first_spelled.ensures

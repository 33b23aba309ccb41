use Rattle.xv_model.proofs.Growth.Numbers.{copied-within, copied-small, history-within, history-small}
use Rattle.xv_model.proofs.growth_laws.numbers_of_progress_fit.Goals as goal

pub returns : goal.returns
returns c = record { copied = copied-within; copied_small = copied-small; history = history-within; history_small = history-small }

use Rattle.xv_model.proofs.Growth.Numbers.{history-grows, copied-grows, applied-grows}
use Rattle.xv_model.proofs.growth_laws.step_makes_the_numbers_grow.Goals as goal

pub returns : goal.returns
returns c = record { history = history-grows; copied = copied-grows; applied = applied-grows }

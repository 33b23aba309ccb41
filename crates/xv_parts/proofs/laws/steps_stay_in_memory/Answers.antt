use Rattle.xv_parts.proofs.Staying.{stays}
use Rattle.xv_parts.proofs.laws.steps_stay_in_memory.Goals as goal

pub returns : goal.returns
returns c = λ m n e a h fit s kept. stays m n e a h s kept

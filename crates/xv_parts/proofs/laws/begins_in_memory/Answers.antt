use Rattle.xv_parts.proofs.Staying.{begins}
use Rattle.xv_parts.proofs.laws.begins_in_memory.Goals as goal

pub returns : goal.returns
returns c = begins

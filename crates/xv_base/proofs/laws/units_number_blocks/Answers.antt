use Rattle.xv_base.proofs.Partition.{numbers_blocks}
use Rattle.xv_base.proofs.laws.units_number_blocks.Goals as goal

pub returns : goal.returns
returns c = λ s g. numbers_blocks s

use Rattle.xv_base.proofs.Partition.{has_greatest_size}
use Rattle.xv_base.proofs.laws.greatest_size_is_had.Goals as goal

pub returns : goal.returns
returns c = has_greatest_size

use Rattle.xv_base.proofs.Partition.{partitions_bytes}
use Rattle.xv_base.proofs.laws.units_partition_bytes.Goals as goal

pub returns : goal.returns
returns c = partitions_bytes

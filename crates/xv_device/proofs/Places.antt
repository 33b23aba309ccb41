-- The bytes of a unit lie within those of all, and apart from those of another unit.
use Rattle.std.proofs.Common.{ℕ, ◌+◌, ◌<◌, ◌≤◌}
use Rattle.xv_base.specs.Units.{Shape, units, all_bytes, size, place}
use Rattle.xv_base.specs.Layout.{IsGood}
use Rattle.xv_base.proofs.Partition.{partitions_bytes}

pub apart : (s : Shape) → IsGood s → (u v : ℕ) → u < v → v < units s → place s u + size s u ≤ place s v
apart s g = (partitions_bytes s g).apart

pub within : (s : Shape) → IsGood s → (u : ℕ) → u < units s → place s u + size s u ≤ all_bytes s
within s g = (partitions_bytes s g).within

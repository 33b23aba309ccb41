use Rattle.std.proofs.Common.{◌≡◌, ◌+◌, ◌*◌, ◌^◌, ◌≤◌, drop}
use Rattle.xv_base.specs.Units.{blocks_of}
use Rattle.xv_base.proofs.disks.count_blocks.Given as goal

-- what is counted, and what is left
abbrev pub invariant-loop-disk : goal.invariant-loop-disk
invariant-loop-disk l = (blocks_of l.disks ≡ l.total + blocks_of (drop l.disk-index l.disks)) × (l.total ≤ l.disk-index * 2 ^ 32)

use Rattle.std.proofs.Common.{◌≡◌, max, drop}
use Rattle.xv_base.specs.Units.{max_block_size}
use Rattle.xv_base.proofs.disks.max_block_size.Given as goal

-- the greatest so far, and that of the rest
abbrev pub invariant-loop-disk : goal.invariant-loop-disk
invariant-loop-disk l = max_block_size l.disks ≡ max l.most (max_block_size (drop l.disk-index l.disks))

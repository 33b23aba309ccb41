use Rattle.std.proofs.Common.{◌≡◌, ◌+◌, ◌<◌, drop}
use Rattle.xv_base.specs.Units.{blocks_of, bytes_of, disk_at, block_at, block_size_at, bytes_before}
use Rattle.xv_base.proofs.disks.locate.Given as goal

-- the block is not on the disks that were passed
abbrev pub invariant-loop-i : goal.invariant-loop-i
invariant-loop-i l =
    (l.left < blocks_of (drop l.i l.disks))
    × (disk_at l.disks l.fn.block ≡ l.i + disk_at (drop l.i l.disks) l.left)
    × (block_at l.disks l.fn.block ≡ block_at (drop l.i l.disks) l.left)
    × (block_size_at l.disks l.fn.block ≡ block_size_at (drop l.i l.disks) l.left)
    × (bytes_before l.disks l.fn.block ≡ l.before + bytes_before (drop l.i l.disks) l.left)
    × (bytes_of l.disks ≡ l.before + bytes_of (drop l.i l.disks))

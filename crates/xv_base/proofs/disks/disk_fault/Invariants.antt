use Rattle.std.proofs.Common.{◌≡◌, ◌+◌, drop}
use Rattle.xv_base.specs.Layout.{disk_fault}
use Rattle.xv_base.proofs.disks.disk_fault.Given as goal

-- the disks that were passed have sizes that are allowed
abbrev pub invariant-loop-disk : goal.invariant-loop-disk
invariant-loop-disk l = (disk_fault 1 l.disks ≡ disk_fault l.number (drop l.disk-index l.disks)) × (l.number ≡ l.disk-index + 1)

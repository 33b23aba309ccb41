use Rattle.std.proofs.Common.{◌≡◌, ◌+◌, drop}
use Rattle.xv_base.specs.Units.{bytes_of}
use Rattle.xv_base.proofs.disks.count_bytes.Given as goal

-- what is counted, and what is left
abbrev pub invariant-loop-disk : goal.invariant-loop-disk
invariant-loop-disk l = bytes_of l.disks ≡ l.total + bytes_of (drop l.disk-index l.disks)

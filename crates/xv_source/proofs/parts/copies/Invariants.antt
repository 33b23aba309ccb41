use Rattle.std.proofs.Common.{◌≡◌, take}
use Rattle.xv_source.specs.Parts.{fresh_copies}
use Rattle.xv_source.proofs.parts.copies.Given as goal

abbrev pub invariant-loop-disk : goal.invariant-loop-disk
invariant-loop-disk l = l.disks.items ≡ fresh_copies l.most (take l.disk l.layout.disks)

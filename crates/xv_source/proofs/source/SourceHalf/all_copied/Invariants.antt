use Rattle.std.proofs.Common.{◌≡◌}
use Rattle.xv_source.proofs.AllDisks.{copied-from}
use Rattle.xv_source.proofs.source.SourceHalf.all_copied.Given as goal

abbrev pub invariant-loop-disk : goal.invariant-loop-disk
invariant-loop-disk g l = copied-from l.self.shape.disks l.self.disks 0 ≡ copied-from l.self.shape.disks l.self.disks l.disk

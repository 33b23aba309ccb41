use Rattle.std.proofs.Common.{◌≡◌}
use Rattle.xv_source.proofs.AllDisks.{free-from}
use Rattle.xv_source.proofs.source.SourceHalf.all_free.Given as goal

abbrev pub invariant-loop-disk : goal.invariant-loop-disk
invariant-loop-disk g l = free-from l.self.disks 0 ≡ free-from l.self.disks l.disk

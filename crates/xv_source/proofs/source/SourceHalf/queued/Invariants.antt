use Rattle.std.proofs.Common.{◌≡◌}
use Rattle.xv_source.proofs.AllDisks.{queued-from}
use Rattle.xv_source.proofs.source.SourceHalf.queued.Given as goal

abbrev pub invariant-loop-disk : goal.invariant-loop-disk
invariant-loop-disk g l = queued-from l.self.disks l.guest.0 0 ≡ queued-from l.self.disks l.guest.0 l.disk

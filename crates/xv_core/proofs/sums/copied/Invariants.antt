use Rattle.std.proofs.Common.{◌≡◌, ◌+◌, drop, sum_by}
use Rattle.xv_model.specs.View.{Disk}
use Rattle.xv_core.proofs.sums.copied.Given as goal

abbrev pub invariant-loop-disk : goal.invariant-loop-disk
invariant-loop-disk g l = l.total + sum_by (λ (d : Disk). d.cursor) (drop l.disk l.source.disks) ≡ sum_by (λ (d : Disk). d.cursor) l.source.disks

use Rattle.std.proofs.Common.{◌≡◌, ◌++◌, map, take}
use Rattle.xv_text.specs.Lines.{text_of}
use Rattle.xv_job.specs.JobText.{disk_fields}
use Rattle.xv_job.proofs.print.print_disks.Given as goal

abbrev pub invariant-loop-disk : goal.invariant-loop-disk
invariant-loop-disk l = l.out.items ≡ l.initial.out.items ++ text_of (map disk_fields (take l.disk l.layout.disks))

use Rattle.std.proofs.Common.{◌≡◌, ◌++◌, map, take}
use Rattle.xv_text.specs.Lines.{text_of}
use Rattle.xv_job.specs.JobText.{fault_fields}
use Rattle.xv_job.proofs.print.print_faults.Given as goal

abbrev pub invariant-loop-fault : goal.invariant-loop-fault
invariant-loop-fault l = l.out.items ≡ l.initial.out.items ++ text_of (map fault_fields (take l.fault-index l.faults))

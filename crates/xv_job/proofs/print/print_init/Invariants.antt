use Rattle.std.proofs.Common.{◌≡◌, ◌++◌, map, take}
use Rattle.xv_text.specs.Lines.{text_of}
use Rattle.xv_job.specs.JobText.{init_fields}
use Rattle.xv_job.proofs.print.print_init.Given as goal

abbrev pub invariant-loop-content : goal.invariant-loop-content
invariant-loop-content l = l.out.items ≡ l.initial.out.items ++ text_of (map init_fields (take l.content-index l.init))

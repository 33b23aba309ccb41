use Rattle.std.proofs.Common.{◌≡◌, ◌++◌, take}
use Rattle.std.specs.List.{flat_map}
use Rattle.xv_text.specs.Lines.{text_of}
use Rattle.xv_trace.specs.OpText.{Program}
use Rattle.xv_job.specs.JobText.{guest_lines}
use Rattle.xv_job.proofs.print.print_traces.Given as goal

abbrev pub invariant-loop-trace : goal.invariant-loop-trace
invariant-loop-trace l = l.out.items ≡ l.initial.out.items ++ text_of (flat_map (λ (t : Program). guest_lines t.ops) (take l.trace-index l.traces))

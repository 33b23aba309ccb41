use Rattle.std.proofs.Common.{◌≡◌, length}
use Rattle.xv_top.proofs.Handovers.{IsTold}
use Rattle.xv_top.proofs.handover.write_answers.Given as goal

abbrev pub invariant-loop-event : goal.invariant-loop-event
invariant-loop-event g l = record {
  told : IsTold l.fn.events l.fn.replies (length l.yielded) (g.O.Sink.taken l.fn.output) (g.O.Sink.taken l.output);
  quiet : g.O.Sink.faults l.output ≡ g.O.Sink.faults l.fn.output;
}

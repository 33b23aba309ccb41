use Rattle.std.proofs.Common.{◌≡◌, drop}
use Rattle.xv_run.specs.Journal.{lines_with}
use Rattle.xv_run.proofs.Lines.{AreTaken}
use Rattle.xv_run.proofs.journal.write_entries.Given as goal

-- the lines of the entries before were taken
abbrev pub invariant-loop-entry : goal.invariant-loop-entry
invariant-loop-entry g l = record {
  taken : AreTaken (g.O.Sink.taken l.fn.output) (g.O.Sink.taken l.output) (lines_with l.journal l.reads) (lines_with (drop l.entry-index l.journal) l.rest);
  quiet : g.O.Sink.faults l.output ≡ g.O.Sink.faults l.fn.output;
}

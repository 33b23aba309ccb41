use Rattle.std.proofs.Common.{◌≡◌, length}
use Rattle.xv_text.proofs.Progress.{IsAt}
use Rattle.xv_text.proofs.reading.read_lines.Given as goal

abbrev pub invariant-loop-alloc : goal.invariant-loop-alloc
invariant-loop-alloc g l = record {
  holds : g.R.ReadsLines.holds l.reader;
  reads : g.R.ReadsLines.reader l.reader ≡ g.R.ReadsLines.reader l.initial.reader;
  place : IsAt (g.R.ReadsLines.reader l.initial.reader) (g.R.ReadsLines.state l.initial.reader) l.first_line l.text (g.R.ReadsLines.state l.reader) l.line l.rest;
}

abbrev pub decreases-loop-alloc : goal.decreases-loop-alloc
decreases-loop-alloc g l = length l.rest

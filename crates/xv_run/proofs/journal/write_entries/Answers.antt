use Rattle.std.proofs.Common.{◌∙◌, arith}
use Rattle.xv_io.proofs.Took.{front-whole}
use Rattle.xv_run.proofs.Lines.{turn-taken, turn-cut, turn-short, ends-taken}
use Rattle.xv_run.proofs.journal.write_entries.Goals as goal

pub write_entry-requires : goal.write_entry-requires
write_entry-requires g c = turn-short c.args.journal.now _ _ _ c.loop-entry.entry-index _ (omega arith) c.bytes_read-count.ensures c.front.ensures c.requires.short

pub loop-entry-preserved : goal.loop-entry-preserved
loop-entry-preserved g c = record {
  taken = turn-taken _ _ _ _ c.args.journal.now _ _ _ _ c.loop-entry.entry-index _ (omega arith) c.bytes_read-count.ensures c.front.ensures c.behind-rest.ensures c.loop-entry.invariant.taken c.in_ok-write_entry.ensures.whole;
  quiet = c.in_ok-write_entry.ensures.quiet ∙ c.loop-entry.invariant.quiet;
}

pub returns-in_err-write_entry-clause-front : goal.returns-in_err-write_entry-clause-front
returns-in_err-write_entry-clause-front g c = turn-cut _ _ _ _ c.args.journal.now _ _ _ c.loop-entry.entry-index _ (omega arith) c.bytes_read-count.ensures c.front.ensures c.loop-entry.invariant.taken c.write_entry.ensures.front

pub returns-clause-front : goal.returns-clause-front
returns-clause-front g c = front-whole _ _ _ (ends-taken _ _ _ c.args.journal.now _ c.loop-entry.entry-index (omega arith) c.loop-entry.invariant.taken)

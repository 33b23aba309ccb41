use Rattle.std.proofs.Common.{◌∙◌, ap, subst, ℕ, List, OnOk}
use Rattle.std.specs.List.{list_all}
use Rattle.xv_io.specs.Io.{TookMore, TookFront}
use Rattle.xv_run.specs.Journal.{is_short}
use Rattle.xv_run.proofs.GuestReads.{journal-short, lines-are}
use Rattle.xv_run.proofs.journal.write_journal.Goals as goal

pub write_entries-requires : goal.write_entries-requires
write_entries-requires g c = record { short = ap (list_all is_short) c.journal.ensures.exactly ∙ journal-short c.args.machine.now c.requires }

pub returns-clause-whole : goal.returns-clause-whole
returns-clause-whole g c =
    subst (λ (text : List ℕ). OnOk c.write_entries.result (TookMore (g.O.Sink.taken c.args.output.now) (g.O.Sink.taken c.write_entries.new.output) text))
    (lines-are c.args.machine.now _ _ c.requires c.journal.ensures.exactly c.reads.ensures.exactly) c.write_entries.ensures.whole

pub returns-clause-front : goal.returns-clause-front
returns-clause-front g c =
    subst (λ (text : List ℕ). TookFront (g.O.Sink.taken c.args.output.now) (g.O.Sink.taken c.write_entries.new.output) text)
    (lines-are c.args.machine.now _ _ c.requires c.journal.ensures.exactly c.reads.ensures.exactly) c.write_entries.ensures.front

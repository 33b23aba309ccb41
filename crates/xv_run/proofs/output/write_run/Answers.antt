use Rattle.std.proofs.Common.{refl}
use Rattle.xv_io.specs.Io.{TookMore}
use Rattle.xv_io.proofs.Took.{took-both, front-first, front-last}
use Rattle.xv_job.specs.Written.{job_of}
use Rattle.xv_run.specs.Journal.{journal_text}
use Rattle.xv_run.specs.Run.{result_text, run_text}
use Rattle.xv_run.proofs.Printing.{on-ok}
use Rattle.xv_run.proofs.output.write_run.Goals as goal

pub returns-in_err-write_journal-clause-front : goal.returns-in_err-write_journal-clause-front
returns-in_err-write_journal-clause-front g c =
    let m = c.args.machine.now in
    front-first _ _ (journal_text (job_of m.job) m.journal) (result_text c.args.form (job_of m.job) m.journal c.args.counts.now.finish) (run_text c.args.form (job_of m.job) m.journal c.args.counts.now.finish)
    c.write_journal.ensures.front refl

pub returns-clause-whole : goal.returns-clause-whole
returns-clause-whole g c =
    let m = c.args.machine.now in
    let text = journal_text (job_of m.job) m.journal in
    let result = result_text c.args.form (job_of m.job) m.journal c.args.counts.now.finish in
    on-ok c.write_result.result (TookMore (g.O.Sink.taken c.write_journal.new.output) (g.O.Sink.taken c.write_result.new.output) result) (TookMore (g.O.Sink.taken c.args.output.now) (g.O.Sink.taken c.write_result.new.output) (run_text c.args.form (job_of m.job) m.journal c.args.counts.now.finish))
    (λ taken. took-both _ _ _ text result c.in_ok-write_journal.ensures.whole taken) c.write_result.ensures.whole

pub returns-clause-front : goal.returns-clause-front
returns-clause-front g c =
    let m = c.args.machine.now in
    front-last _ _ _ (journal_text (job_of m.job) m.journal) (result_text c.args.form (job_of m.job) m.journal c.args.counts.now.finish) (run_text c.args.form (job_of m.job) m.journal c.args.counts.now.finish)
    c.in_ok-write_journal.ensures.whole c.write_result.ensures.front refl

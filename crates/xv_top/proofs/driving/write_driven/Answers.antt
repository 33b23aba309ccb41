use Rattle.std.proofs.Common.{List, ℕ, sym, subst}
use Rattle.std.specs.Prelude.{None}
use Rattle.xv_io.specs.Io.{TookMore}
use Rattle.xv_model.specs.Job.{unit_count}
use Rattle.xv_report.specs.Texts.{report_text}
use Rattle.xv_io.proofs.Took.{took-both, took-text, at_text, front-first, front-last}
use Rattle.xv_job.specs.Written.{job_of}
use Rattle.xv_top.specs.Driven.{agree_line, agreed_text}
use Rattle.xv_top.proofs.Driven.{agreed-is, line-is}
use Rattle.xv_top.proofs.driving.write_driven.Goals as goal

pub returns-in_default-write_report-clause-front : goal.returns-in_default-write_report-clause-front
returns-in_default-write_report-clause-front g c =
    let m = c.args.machine.now in
    let taken = g.O.Sink.taken in
    front-first (taken c.args.output.now) (taken c.write_report.new.sink) (report_text c.totals.result None) (agree_line (unit_count (job_of m.job))) (agreed_text (job_of m.job) m.journal)
    c.write_report.ensures.front (agreed-is m c.totals.result c.totals.ensures)

pub returns-in-Ok-write_out-clause-whole : goal.returns-in-Ok-write_out-clause-whole
returns-in-Ok-write_out-clause-whole g c =
    let m = c.args.machine.now in
    let taken = g.O.Sink.taken in
    let report = report_text c.totals.result None in
    let line = agree_line (unit_count (job_of m.job)) in
    let printed = took-text (taken c.write_report.new.sink) (taken c.write_out.new.output) c.bytes.result.now line (line-is c.bytes.result.now c.print_agree.result c.in-Ok.count (unit_count (job_of m.job)) c.bytes.ensures.exactly c.print_agree.ensures c.in-Ok.ensures) c.in-Ok-write_out.ensures.whole in
    subst (λ (text : List ℕ). TookMore (taken c.args.output.now) (taken c.write_out.new.output) text) (sym (agreed-is m c.totals.result c.totals.ensures))
    (took-both (taken c.args.output.now) (taken c.write_report.new.sink) (taken c.write_out.new.output) report line c.in-Ok-write_report.ensures.whole printed)

pub returns-in-Err-clause-front : goal.returns-in-Err-clause-front
returns-in-Err-clause-front g c =
    let m = c.args.machine.now in
    let taken = g.O.Sink.taken in
    let report = report_text c.totals.result None in
    let line = agree_line (unit_count (job_of m.job)) in
    let printed = at_text (taken c.write_report.new.sink) (taken c.write_out.new.output) c.bytes.result.now line (line-is c.bytes.result.now c.print_agree.result c.in-Ok.count (unit_count (job_of m.job)) c.bytes.ensures.exactly c.print_agree.ensures c.in-Ok.ensures) c.write_out.ensures.front in
    front-last (taken c.args.output.now) (taken c.write_report.new.sink) (taken c.write_out.new.output) report line (agreed_text (job_of m.job) m.journal)
    c.in-Ok-write_report.ensures.whole printed (agreed-is m c.totals.result c.totals.ensures)

use Rattle.std.proofs.Common.{◌∙◌}
use Rattle.std.proofs.lemmas.Result.{on_ok_weaker}
use Rattle.xv_io.proofs.Took.{took-text, at_text}
use Rattle.xv_report.proofs.Reports.{plain-front, report-whole, report-front}
use Rattle.xv_report.proofs.report.write_report.Goals as goal

pub returns-in_err-write_text-clause-front : goal.returns-in_err-write_text-clause-front
returns-in_err-write_text-clause-front g c =
    plain-front c.args.totals.now _ _ _ (at_text _ _ _ _ (c.bytes.ensures.exactly ∙ c.report.ensures) c.write_text.ensures.front)

pub returns-in-Some-clause-whole : goal.returns-in-Some-clause-whole
returns-in-Some-clause-whole g c =
    on_ok_weaker c.write_counts.result
    (report-whole c.args.totals.now _ c.in-Some.counts _ _ _ c.in-Some.is (took-text _ _ _ _ (c.bytes.ensures.exactly ∙ c.report.ensures) c.in_ok-write_text.ensures.whole))
    c.write_counts.ensures.whole

pub returns-in-Some-clause-front : goal.returns-in-Some-clause-front
returns-in-Some-clause-front g c =
    report-front c.args.totals.now _ c.in-Some.counts _ _ _ c.in-Some.is
    (took-text _ _ _ _ (c.bytes.ensures.exactly ∙ c.report.ensures) c.in_ok-write_text.ensures.whole) c.write_counts.ensures.front

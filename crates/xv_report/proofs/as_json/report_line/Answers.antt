use Rattle.xv_report.specs.Workers.{tally_of}
use Rattle.xv_report.proofs.Whole.{line-text}
use Rattle.xv_report.proofs.as_json.report_line.Goals as goal

pub returns-in-Ok-push : goal.returns-in-Ok-push
returns-in-Ok-push c =
    line-text c.args.totals.now (tally_of c.args.counts) _ _ _ c.in_ok-value.ensures.exactly c.in-Ok.ensures.text c.in-Ok-push.ensures.items

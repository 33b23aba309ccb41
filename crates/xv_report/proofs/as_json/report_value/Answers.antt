use Rattle.std.proofs.Common.{◌∙◌}
use Rattle.xv_report.specs.Workers.{tally_of}
use Rattle.xv_report.proofs.Found.{told-each}
use Rattle.xv_report.proofs.as_json.report_value.Goals as goal

pub returns-in-Ok-clause-found : goal.returns-in-Ok-clause-found
returns-in-Ok-clause-found c =
    told-each c.args.totals.now (tally_of c.args.counts) _ (c.from.ensures ∙ c.in-Ok.ensures.exactly) c.requires c.in-Ok.ensures.small

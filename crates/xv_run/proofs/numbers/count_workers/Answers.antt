use Rattle.std.proofs.Common.{ap, ◌∙◌, map}
use Rattle.xv_job.specs.Written.{job_of}
use Rattle.xv_run.specs.Numbers.{counted}
use Rattle.xv_run.proofs.Workers.{tally-is, counts-distinct}
use Rattle.xv_run.proofs.numbers.count_workers.Goals as goal

pub returns-clause-counted : goal.returns-clause-counted
returns-clause-counted c =
    tally-is (job_of c.args.job.now) c.args.journal.now c.made_before.result.now c.args.finish c.deref.result.now _
    c.made_before.ensures (c.deref.ensures.value ∙ c.in_ok-list.ensures) c.in_ok-workers.ensures

pub returns-clause-distinct : goal.returns-clause-distinct
returns-clause-distinct c =
    counts-distinct c.made_before.result.now (job_of c.args.job.now) _
    (c.in_ok-workers.ensures ∙ ap (map (counted c.made_before.result.now)) (c.deref.ensures.value ∙ c.in_ok-list.ensures))

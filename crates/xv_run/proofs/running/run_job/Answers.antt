use Rattle.xv_run.proofs.Ended.{ended-of, tally-told}
use Rattle.xv_run.proofs.running.run_job.Goals as goal

pub returns-in-Ok-clause-ended : goal.returns-in-Ok-clause-ended
returns-in-Ok-clause-ended g c =
    let m = c.in_ok-machine-2.machine in
    ended-of c.args.job c.in_ok-machine.machine m c.in_ok-machine-2.finish c.in-Ok.counts c.in_ok-machine.ensures.begun c.in_ok-machine-2.ensures.ran
    (tally-told m _ _ c.in_ok-machine-2.finish c.in-Ok.counts c.job-2.ensures c.journal.ensures.exactly c.in-Ok.ensures.counted)

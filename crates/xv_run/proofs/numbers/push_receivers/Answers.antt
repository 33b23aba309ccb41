use Rattle.xv_report.specs.declared.counts.Job1.TheVariants.{Receiver}
use Rattle.xv_run.proofs.Workers.{kind-more}
use Rattle.xv_run.proofs.numbers.push_receivers.Goals as goal

pub loop-stream-preserved : goal.loop-stream-preserved
loop-stream-preserved c = kind-more Receiver _ _ _ _ c.in_ok-push_one.ensures c.loop-stream.invariant

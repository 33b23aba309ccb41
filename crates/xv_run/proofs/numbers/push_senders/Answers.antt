use Rattle.xv_report.specs.declared.counts.Job1.TheVariants.{Sender}
use Rattle.xv_run.proofs.Workers.{kind-more}
use Rattle.xv_run.proofs.numbers.push_senders.Goals as goal

pub loop-stream-preserved : goal.loop-stream-preserved
loop-stream-preserved c = kind-more Sender _ _ _ _ c.in_ok-push_one.ensures c.loop-stream.invariant

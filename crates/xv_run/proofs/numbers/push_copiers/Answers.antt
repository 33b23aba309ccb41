use Rattle.xv_report.specs.declared.counts.Job1.TheVariants.{Copier}
use Rattle.xv_run.proofs.Workers.{kind-more}
use Rattle.xv_run.proofs.numbers.push_copiers.Goals as goal

pub loop-disk-preserved : goal.loop-disk-preserved
loop-disk-preserved c = kind-more Copier _ _ _ _ c.in_ok-push_one.ensures c.loop-disk.invariant

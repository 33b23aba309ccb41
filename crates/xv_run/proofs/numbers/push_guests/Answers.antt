use Rattle.xv_report.specs.declared.counts.Job1.TheVariants.{Guest}
use Rattle.xv_run.proofs.Workers.{kind-more}
use Rattle.xv_run.proofs.numbers.push_guests.Goals as goal

pub loop-guest-preserved : goal.loop-guest-preserved
loop-guest-preserved c = kind-more Guest _ _ _ _ c.in_ok-push_one.ensures c.loop-guest.invariant

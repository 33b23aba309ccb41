use Rattle.std.proofs.Common.{refl, arith}
use Rattle.xv_report.proofs.Objects.{workers-step, small-step}
use Rattle.xv_report.proofs.as_json.make_workers.Goals as goal

pub loop-count-preserved : goal.loop-count-preserved
loop-count-preserved c = record {
  exactly = workers-step c.args.counts.now c.loop-count.count-index _ _ _ _ (omega arith) c.loop-count.invariant.exactly refl c.in_ok-put_worker.ensures.exactly;
  small = small-step c.args.counts.now c.loop-count.count-index _ (omega arith) c.loop-count.invariant.small c.put_worker.ensures.small;
}

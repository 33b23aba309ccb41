use Rattle.xv_model.proofs.Ending.Dead.{dead_not_running}
use Rattle.xv_model.proofs.Ending.Queues.{ended-cursor, ended-queue, ended-region, failed-cursor, failed-queue, failed-guest, failed-release}
use Rattle.xv_model.proofs.ending_laws.endings_and_failures_keep_the_queues.Goals as goal

pub returns : goal.returns
returns c = record {
  ended_cursors = ended-cursor;
  ended_queues = ended-queue;
  ended_regions = ended-region;
  no_regions = λ job v d inv dead. inv.regions.only_running d (dead_not_running v.phase dead);
  failed_cursors = failed-cursor;
  failed_queues = failed-queue;
  failed_guest = failed-guest;
  failed_release = failed-release;
}

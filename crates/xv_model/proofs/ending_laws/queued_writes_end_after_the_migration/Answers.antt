use Rattle.xv_model.proofs.GoesOn.{some-length}
use Rattle.xv_model.proofs.Legal.{front_writes}
use Rattle.xv_model.proofs.Ending.Released.{release-goes, released-history, released-queue, released-others, released-written, released-failed, switched-none_waits}
use Rattle.xv_model.proofs.ending_laws.queued_writes_end_after_the_migration.Goals as goal

pub returns : goal.returns
returns c = record {
  goes_on = release-goes;
  history = released-history;
  queue = released-queue;
  other_disks = released-others;
  written = released-written;
  failed = released-failed;
  of_its_unit = λ job v d inv some. front_writes job v d inv (some-length _ some);
  none_once_switched = switched-none_waits;
}

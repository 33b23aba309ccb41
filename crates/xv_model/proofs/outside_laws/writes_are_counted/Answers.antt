use Rattle.xv_model.proofs.Outside.Counts.{source_counted, dest_counted}
use Rattle.xv_model.proofs.outside_laws.writes_are_counted.Goals as goal

pub returns : goal.returns
returns c = record { source = source_counted; dest = dest_counted }

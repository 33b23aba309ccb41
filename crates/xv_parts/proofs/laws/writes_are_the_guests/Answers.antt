use Rattle.xv_parts.proofs.Holding.{source-writes, dest-writes}
use Rattle.xv_parts.proofs.laws.writes_are_the_guests.Goals as goal

pub returns : goal.returns
returns c = record {
  source = λ m unit h lt. source-writes m h unit;
  dest = λ m unit h lt. dest-writes m h unit;
}

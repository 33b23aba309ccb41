use Rattle.xv_parts.proofs.Holding.{source-holds, dest-holds}
use Rattle.xv_parts.proofs.laws.sides_are_the_guests.Goals as goal

pub returns : goal.returns
returns c = record { source = source-holds; dest = dest-holds }

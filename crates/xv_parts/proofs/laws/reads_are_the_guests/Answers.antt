use Rattle.xv_parts.proofs.Reading.{read-on}
use Rattle.xv_parts.proofs.laws.reads_are_the_guests.Goals as goal

pub returns : goal.returns
returns c = λ m n e a h fit s kept. read-on m n e a h s kept

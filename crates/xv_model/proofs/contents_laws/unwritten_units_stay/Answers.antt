use Rattle.xv_model.proofs.Contents.Unwritten.{none-before, not_switched-before, unwritten-same}
use Rattle.xv_model.proofs.contents_laws.unwritten_units_stay.Goals as goal

pub returns : goal.returns
returns c = record { none_before = none-before; not_switched_before = not_switched-before; same = unwritten-same }

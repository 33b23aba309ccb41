use Rattle.xv_model.proofs.Contents.Steps.{contents-first}
use Rattle.xv_model.proofs.contents_laws.first_contents_hold.Goals as goal

pub returns : goal.returns
returns c = contents-first

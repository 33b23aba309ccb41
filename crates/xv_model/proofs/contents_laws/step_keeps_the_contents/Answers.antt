use Rattle.xv_model.proofs.Contents.Steps.{contents-step}
use Rattle.xv_model.proofs.contents_laws.step_keeps_the_contents.Goals as goal

pub returns : goal.returns
returns c = contents-step

use Rattle.xv_model.proofs.Contents.Sizes.{length-content}
use Rattle.xv_model.proofs.contents_laws.contents_have_their_size.Goals as goal

pub returns : goal.returns
returns c = λ job history unit n good within legal le. length-content job history unit n good legal le

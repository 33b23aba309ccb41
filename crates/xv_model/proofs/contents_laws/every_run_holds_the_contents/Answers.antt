use Rattle.xv_model.specs.View.{first_view}
use Rattle.xv_model.specs.Contents.{first_contents}
use Rattle.xv_model.proofs.First.{first_view-holds}
use Rattle.xv_model.proofs.Kept.{step-holds}
use Rattle.xv_model.proofs.Contents.Steps.{contents-first}
use Rattle.xv_model.proofs.Contents.Runs.{contents-run}
use Rattle.xv_model.proofs.contents_laws.every_run_holds_the_contents.Goals as goal

pub returns : goal.returns
returns c = λ job dest journal good same fit.
    (contents-run job journal (first_view job) (first_contents job dest) good (λ v e flag. step-holds job v e flag good) fit (first_view-holds job good) (contents-first job dest good same)).contents

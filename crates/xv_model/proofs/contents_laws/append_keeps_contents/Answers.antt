use Rattle.xv_model.proofs.Contents.Histories.{content-append, reads-append}
use Rattle.xv_model.proofs.contents_laws.append_keeps_contents.Goals as goal

pub returns : goal.returns
returns c = record { contents = content-append; reads_before = reads-append }

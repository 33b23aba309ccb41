use Rattle.xv_text.proofs.Cuts.{ended}
use Rattle.xv_text.proofs.fields.Fields.is_done.Goals as goal

pub returns : goal.returns
returns c = ended c.self.inside.ended c.self.inside.bytes.now c.args.self.now c.self.view_is

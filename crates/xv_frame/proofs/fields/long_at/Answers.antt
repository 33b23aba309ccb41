use Rattle.std.proofs.Common.{◌∙◌}
use Rattle.xv_frame.proofs.Numbers.{long-at-eight}
use Rattle.xv_frame.proofs.fields.long_at.Goals as goal

pub returns : goal.returns
returns c = c.from_be_bytes.ensures ∙ long-at-eight c.args.bytes.now c.args.at

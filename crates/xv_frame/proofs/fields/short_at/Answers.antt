use Rattle.std.proofs.Common.{◌∙◌}
use Rattle.xv_frame.proofs.Numbers.{short-at-two}
use Rattle.xv_frame.proofs.fields.short_at.Goals as goal

pub returns : goal.returns
returns c = c.from_be_bytes.ensures ∙ short-at-two c.args.bytes.now c.args.at

use Rattle.std.proofs.Common.{◌∙◌}
use Rattle.xv_frame.proofs.Numbers.{word-at-four}
use Rattle.xv_frame.proofs.fields.word_at.Goals as goal

pub returns : goal.returns
returns c = c.from_be_bytes.ensures ∙ word-at-four c.args.bytes.now c.args.at

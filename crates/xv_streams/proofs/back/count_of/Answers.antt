use Rattle.std.proofs.Common.{◌∙◌}
use Rattle.xv_frame.proofs.Numbers.{word-at-four}
use Rattle.xv_streams.proofs.back.count_of.Goals as goal

pub returns : goal.returns
returns c = c.from_be_bytes.ensures ∙ word-at-four c.args.head.now 8

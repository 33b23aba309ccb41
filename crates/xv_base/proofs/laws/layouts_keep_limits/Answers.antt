use Rattle.xv_base.proofs.Within.{good_within}
use Rattle.xv_base.proofs.laws.layouts_keep_limits.Goals as goal

pub returns : goal.returns
returns c = good_within

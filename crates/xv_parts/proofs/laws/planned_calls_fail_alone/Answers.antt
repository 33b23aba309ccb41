use Rattle.xv_parts.proofs.Planned.{faithful}
use Rattle.xv_parts.proofs.laws.planned_calls_fail_alone.Goals as goal

pub returns : goal.returns
returns c = faithful

use Rattle.std.proofs.Common.{◌≡◌, ◌∙◌, None, Some, sym}
use Rattle.xv_job.proofs.MadeGood.{machine_good}
use Rattle.xv_job.proofs.made.layout.Goals as goal

pub unreachable-requires : goal.unreachable-requires
unreachable-requires c = let none : None ≡ Some c.in-Err.field-0 = sym machine_good.no_fault ∙ c.in-Err.ensures.fault in cc

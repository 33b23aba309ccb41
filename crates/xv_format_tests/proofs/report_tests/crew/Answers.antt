use Rattle.std.proofs.Common.{rules}
use Rattle.std.specs.List.{IsDistinct}
use Rattle.xv_format_tests.proofs.report_tests.crew.Goals as goal

pub returns : goal.returns
unfolding IsDistinct
returns c = search rules

use Rattle.std.proofs.Common.{sym, subst}
use Rattle.xv_wire.specs.Memory.{Pipe, told}
use Rattle.xv_core.specs.PartsSeen.{PartsSeen}
use Rattle.xv_core.specs.Beginning.{AreFit}
use Rattle.xv_top_tests.proofs.replay_tests.started.Goals as goal

pub start-requires-in-Err : goal.start-requires-in-Err
start-requires-in-Err c = subst (λ (p : PartsSeen Pipe). AreFit told p) (sym c.in-Err.ensures.again) c.requires

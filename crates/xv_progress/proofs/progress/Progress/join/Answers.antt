use Rattle.std.proofs.Common.{ap, arith}
use Rattle.xv_progress.proofs.Kept.{joins}
use Rattle.xv_progress.proofs.progress.Progress.join.Goals as goal

pub join_seat-requires : goal.join_seat-requires
join_seat-requires c = (
  cc,
  cc,
  ap (λ me. me.1) c.spent.invariant.view,
  omega arith,
  joins _ _ _ _ (ap (λ me. me.0.writes) c.kept.invariant.view) (ap (λ me. me.0.writes) c.spent.invariant.view),
)

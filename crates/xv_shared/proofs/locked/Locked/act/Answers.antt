use Rattle.std.proofs.Common.{refl}
use Rattle.xv_shared.proofs.Holding.{few-totals, held-other, fits-held}
use Rattle.xv_shared.proofs.locked.Locked.act.Goals as goal

pub step-turn-requires : goal.step-turn-requires
step-turn-requires g c =
    let h = c.self.invariant in
    record {
      fitting = fits-held g.D.Named.origin c.self.inside.migration c.args.event h.came c.requires.fitting;
      own = h.own;
      last = h.last;
    }

pub enter-requires : goal.enter-requires
enter-requires g c = record { few = (few-totals g.D.Named.origin c.self.inside.migration _ _ _ _ c.self.invariant c.step-turn.ensures.kept).other_few }

pub invariant_of-self : goal.invariant_of-self
invariant_of-self g c =
    let e = c.enter.ensures in
    held-other g.D.Named.origin c.self.inside.migration c.step-turn.new.migration c.args.event c.step-turn.result.turn _ _ _ _ _ _ c.requires.other c.self.invariant c.step-turn.ensures.stepped
    (record { done = e.done; queued = e.queued; faulted = e.faulted; other = e.other }) c.step-turn.ensures.published

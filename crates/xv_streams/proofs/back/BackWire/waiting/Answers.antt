use Rattle.std.proofs.Common.{subst, take}
use Rattle.xv_streams.specs.Returned.{Returned, AreCarried}
use Rattle.xv_streams.proofs.BackSteps.{back-carried}
use Rattle.xv_streams.proofs.back.BackWire.waiting.Goals as goal

pub returns-clause-carried : goal.returns-clause-carried
returns-clause-carried g c =
    let b = c.self.inside in
    subst (λ (r : Returned). AreCarried r) c.self.view_is (back-carried (take b.count b.head) (g.W.Wire.told b.wire) b.waiting (g.W.Wire.faults b.wire) c.self.invariant.0)

use Rattle.std.proofs.Common.{sym, ◌∙◌, refl}
use Rattle.xv_dest.proofs.Held.{ready-some, ready-none, ready-whole, dest-written}
use Rattle.xv_dest.proofs.Writes.{steps-not_ready, moves-not_ready, steps-written, moves-written, steps-unwritten, makes-write}
use Rattle.xv_dest.proofs.dest.DestHalf.apply.Goals as goal

pub returns-in_default-clause-step : goal.returns-in_default-clause-step
returns-in_default-clause-step g c = rw (← c.self.view_is) (λ job v. steps-not_ready job v _ (ready-none _ _ _ _ c.self.inside.hold (sym c.in_default.is ∙ c.ready.ensures)))

pub returns-in_default-clause-bytes : goal.returns-in_default-clause-bytes
returns-in_default-clause-bytes g c = rw (← c.self.view_is) (λ job v b. moves-not_ready job v b _ (ready-none _ _ _ _ c.self.inside.hold (sym c.in_default.is ∙ c.ready.ensures)))

pub returns-in-Ok-clause-step : goal.returns-in-Ok-clause-step
returns-in-Ok-clause-step g c = rw (← c.self.view_is) (λ job v. steps-written job v _ _ _ _ _ _
    (ready-some _ _ _ _ _ c.self.inside.hold _ c.bytes.result.now (sym c.in-Some.is ∙ c.ready.ensures) c.head-version.ensures.exactly c.bytes.ensures.exactly)
    (dest-written _ (g.T.UnitDevice.told c.self.inside.device) _ (g.T.UnitDevice.faults c.self.inside.device) _ _ _ c.self.inside.hold c.applied.new.self c.applied.ensures c.add.ensures))

pub returns-in-Ok-clause-bytes : goal.returns-in-Ok-clause-bytes
returns-in-Ok-clause-bytes g c = rw (← c.self.view_is) (λ job v b. moves-written job v b _ _ _ _ _ _
    (ready-some _ _ _ _ _ c.self.inside.hold _ c.bytes.result.now (sym c.in-Some.is ∙ c.ready.ensures) c.head-version.ensures.exactly c.bytes.ensures.exactly)
    (dest-written _ (g.T.UnitDevice.told c.self.inside.device) _ (g.T.UnitDevice.faults c.self.inside.device) _ _ _ c.self.inside.hold c.applied.new.self c.applied.ensures c.add.ensures)
    c.in-Ok.ensures.made)

pub returns-in-Ok-clause-call : goal.returns-in-Ok-clause-call
returns-in-Ok-clause-call g c = rw (← c.self.view_is) (makes-write _ _ _ _ _
    (ready-some _ _ _ _ _ c.self.inside.hold _ c.bytes.result.now (sym c.in-Some.is ∙ c.ready.ensures) c.head-version.ensures.exactly c.bytes.ensures.exactly)
    refl
    c.in-Ok.ensures.made)

pub returns-in-Err-clause-step : goal.returns-in-Err-clause-step
returns-in-Err-clause-step g c = rw (← c.self.view_is) (λ job v. steps-unwritten job v _ _ _ _ _ _
    (ready-some _ _ _ _ _ c.self.inside.hold _ c.bytes.result.now (sym c.in-Some.is ∙ c.ready.ensures) c.head-version.ensures.exactly c.bytes.ensures.exactly)
    refl)

pub returns-in-Ok-clause-whole : goal.returns-in-Ok-clause-whole
returns-in-Ok-clause-whole g c = rw (← c.self.view_is) (λ _. ready-whole (g.T.UnitDevice.told c.self.inside.device) (g.T.UnitDevice.faults c.self.inside.device) c.self.inside.freed c.self.inside.hold c.self.inside.layout _ c.bytes.result.now
    c.self.invariant.hold_of c.head-version.ensures.exactly c.bytes.ensures.whole
    (ready-some _ _ _ _ _ c.self.inside.hold _ c.bytes.result.now (sym c.in-Some.is ∙ c.ready.ensures) c.head-version.ensures.exactly c.bytes.ensures.exactly))

pub returns-in-Err-clause-whole : goal.returns-in-Err-clause-whole
returns-in-Err-clause-whole g c = rw (← c.self.view_is) (λ _. ready-whole (g.T.UnitDevice.told c.self.inside.device) (g.T.UnitDevice.faults c.self.inside.device) c.self.inside.freed c.self.inside.hold c.self.inside.layout _ c.bytes.result.now
    c.self.invariant.hold_of c.head-version.ensures.exactly c.bytes.ensures.whole
    (ready-some _ _ _ _ _ c.self.inside.hold _ c.bytes.result.now (sym c.in-Some.is ∙ c.ready.ensures) c.head-version.ensures.exactly c.bytes.ensures.exactly))

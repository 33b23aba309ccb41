use Rattle.xv_dest.proofs.Held.{ready-seen}
use Rattle.xv_dest.proofs.dest.DestHalf.ready.Goals as goal

pub returns : goal.returns
returns g c = rw (← c.self.view_is) (λ v e. ready-seen c.self.inside.layout (g.T.UnitDevice.told c.self.inside.device) (g.T.UnitDevice.faults c.self.inside.device) c.self.inside.freed c.self.inside.hold v c.ready.result _ c.is_some.ensures c.ready.ensures e)

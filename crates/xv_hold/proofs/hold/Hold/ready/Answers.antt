use Rattle.std.proofs.Common.{ap, ◌∙◌}
use Rattle.xv_hold.specs.Messages.{ready_slot}
use Rattle.xv_hold.proofs.FirstReady.{answers}
use Rattle.xv_hold.proofs.hold.Hold.ready.Goals as goal

pub returns : goal.returns
returns c = answers _ c.self.invariant.0 c.first.result c.first.ensures.none c.first.ensures.first ∙ ap ready_slot c.self.view_is

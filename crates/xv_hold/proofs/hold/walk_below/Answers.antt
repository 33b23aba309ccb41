use Rattle.std.proofs.Common.{sym, ◌∙◌}
use Rattle.xv_hold.proofs.Walk.{leads-within, goes-on}
use Rattle.xv_hold.proofs.hold.walk_below.Goals as goal

pub bounds-slots-next : goal.bounds-slots-next
bounds-slots-next c = leads-within _ _ _ _ _ _ c.requires c.loop-at.invariant c.in-Some.is

pub loop-at-preserved : goal.loop-at-preserved
loop-at-preserved c = goes-on _ _ _ _ _ _ c.requires c.loop-at.invariant c.in-Some.is (sym c.is_below.ensures ∙ c.if-not-is_below.false)

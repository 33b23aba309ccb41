use Rattle.xv_handover.proofs.Sound.{after_holds, first_holds}
use Rattle.xv_handover.proofs.play.play_world.Goals as goal

pub returns-in-Ok-reserve-clause-safe : goal.returns-in-Ok-reserve-clause-safe
returns-in-Ok-reserve-clause-safe c =
    rw (c.play.ensures.world, c.in_ok-nodes.ensures) (after_holds _ c.args.events.now first_holds).safe

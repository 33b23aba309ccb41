use Rattle.std.proofs.Common.{arith, ◌≡◌, ◌-◌, take, drop, sym, subst}
use Rattle.std.proofs.lemmas.Grind.{common_steps}
use Rattle.xv_filter.specs.Queue.{IsQueue}
use Rattle.xv_filter.proofs.Joining.{left}
use Rattle.xv_filter.proofs.queue.Queue.leave.Goals as goal

pub invariant_of-self : goal.invariant_of-self
invariant_of-self c =
    let rest : take (c.self.inside.count - 1) c.rotate_left.new.self ≡ drop 1 (take c.self.inside.count c.self.inside.places) = grind (arith, common_steps) in
    (omega (arith, c.self.invariant.0), subst IsQueue (sym rest) (left _ c.self.invariant.1))

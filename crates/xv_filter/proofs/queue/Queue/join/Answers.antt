use Rattle.std.proofs.Common.{rules, arith}
use Rattle.xv_filter.proofs.Joining.{joins}
use Rattle.xv_filter.proofs.queue.Queue.join.Goals as goal

pub bounds-self-inside-self-inside : goal.bounds-self-inside-self-inside
bounds-self-inside-self-inside c =
    (joins _ _ c.args.waiting _ (search rules) c.self.invariant.0 c.self.invariant.1 c.self.view_is c.requires.small c.requires.absent).has_room

pub invariant_of-self : goal.invariant_of-self
invariant_of-self c =
    let j = joins _ _ c.args.waiting _ (search rules) c.self.invariant.0 c.self.invariant.1 c.self.view_is c.requires.small c.requires.absent in
    (omega (arith, j.has_room), j.still)

pub returns : goal.returns
returns c =
    (joins _ _ c.args.waiting _ (search rules) c.self.invariant.0 c.self.invariant.1 c.self.view_is c.requires.small c.requires.absent).one_more

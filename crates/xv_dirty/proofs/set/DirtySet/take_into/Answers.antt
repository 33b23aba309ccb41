use Rattle.std.proofs.Common.{false, ℕ, ap, replicate, ◌∙◌}
use Rattle.xv_dirty.proofs.Members.{empty_is}
use Rattle.xv_dirty.proofs.set.DirtySet.take_into.Goals as goal

pub returns-clause-none_left : goal.returns-clause-none_left
returns-clause-none_left c =
    c.swap.ensures.x_after ∙ empty_is c.args.other.now c.requires.none ∙ ap (λ (n : ℕ). replicate n false) c.requires.same_range

use Rattle.std.proofs.Common.{◌<◌, length, List, Bool, sym, ◌∙◌, subst, arith}
use Rattle.xv_dirty.proofs.Kept.{room_for_one, with_one}
use Rattle.xv_dirty.proofs.set.DirtySet.insert.Goals as goal

pub overflow_add-self : goal.overflow_add-self
overflow_add-self c =
    let below : c.args.page < length c.self.inside.pages = subst (λ (s : List Bool). c.args.page < length s) (sym c.self.view_is) c.requires in
    omega (arith, room_for_one _ _ _ _ _ c.self.invariant below (sym c.has.ensures ∙ c.if-has.false))

pub invariant_of-self : goal.invariant_of-self
invariant_of-self c =
    let below : c.args.page < length c.self.inside.pages = subst (λ (s : List Bool). c.args.page < length s) (sym c.self.view_is) c.requires in
    rw (c.insert.ensures, c.insert-2.ensures, c.insert-3.ensures) (with_one _ _ _ _ _ c.self.invariant below (sym c.has.ensures ∙ c.if-has.false))

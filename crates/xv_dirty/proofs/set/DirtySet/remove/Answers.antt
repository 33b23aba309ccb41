use Rattle.std.proofs.Common.{◌<◌, length, List, Bool, sym, ◌∙◌, subst}
use Rattle.xv_dirty.proofs.Kept.{without_one, without_word, without_group, last, not_last}
use Rattle.xv_dirty.proofs.set.DirtySet.remove.Goals as goal

pub invariant_of-self : goal.invariant_of-self
invariant_of-self c =
    let below : c.args.page < length c.self.inside.pages = subst (λ (s : List Bool). c.args.page < length s) (sym c.self.view_is) c.requires in
    rw c.remove.ensures.gone
    (without_one _ _ _ _ _ c.self.invariant below (sym c.has.ensures ∙ c.if-not-has.false) (not_last _ _ _ _ c.remove.ensures.gone c.remove.ensures.clear c.if-not-remove.true))

pub invariant_of-self-then-not-remove-2 : goal.invariant_of-self-then-not-remove-2
invariant_of-self-then-not-remove-2 c =
    let below : c.args.page < length c.self.inside.pages = subst (λ (s : List Bool). c.args.page < length s) (sym c.self.view_is) c.requires in
    rw (c.remove.ensures.gone, c.remove-2.ensures.gone)
    (without_word _ _ _ _ _ c.self.invariant below (sym c.has.ensures ∙ c.if-not-has.false)
    (last _ _ _ _ c.remove.ensures.gone c.remove.ensures.clear c.if-not-remove.false)
    (not_last _ _ _ _ c.remove-2.ensures.gone c.remove-2.ensures.clear c.if-not-remove-2.true))

pub invariant_of-self-2 : goal.invariant_of-self-2
invariant_of-self-2 c =
    let below : c.args.page < length c.self.inside.pages = subst (λ (s : List Bool). c.args.page < length s) (sym c.self.view_is) c.requires in
    rw (c.remove.ensures.gone, c.remove-2.ensures.gone, c.remove-3.ensures.gone)
    (without_group _ _ _ _ _ c.self.invariant below (sym c.has.ensures ∙ c.if-not-has.false)
    (last _ _ _ _ c.remove.ensures.gone c.remove.ensures.clear c.if-not-remove.false)
    (last _ _ _ _ c.remove-2.ensures.gone c.remove-2.ensures.clear c.if-not-remove-2.false))

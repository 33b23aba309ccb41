use Rattle.std.proofs.Common.{◌+◌, ◌≤◌, ◌++◌, ◌∷◌, [], sym, ap, ◌∙◌, subst}
use Rattle.xv_wire.specs.Wire.{left_past}
use Rattle.xv_wire.specs.Lengths.{InTransit, total}
use Rattle.xv_wire.proofs.Pushing.{pushed, push-seen}
use Rattle.xv_wire.proofs.pieces.Pieces.push.Goals as goal

pub invariant_of-self : goal.invariant_of-self
invariant_of-self c =
    let p = c.self.inside in
    let room : total (left_past p.taken p.lengths.items) + c.args.bytes ≤ p.most = subst (λ (v : InTransit). total v.left + c.args.bytes ≤ v.most) (sym c.self.view_is) c.requires.room in
    (pushed p.lengths.items p.lengths.capacity c.args.bytes p.taken p.most c.push_back.new.self c.self.invariant.0 c.self.invariant.1 c.self.invariant.3 room c.requires.wide c.push_back.ensures.items).sound

pub returns : goal.returns
returns c =
    let p = c.self.inside in
    let room : total (left_past p.taken p.lengths.items) + c.args.bytes ≤ p.most = subst (λ (v : InTransit). total v.left + c.args.bytes ≤ v.most) (sym c.self.view_is) c.requires.room in
    let is = pushed p.lengths.items p.lengths.capacity c.args.bytes p.taken p.most c.push_back.new.self c.self.invariant.0 c.self.invariant.1 c.self.invariant.3 room c.requires.wide c.push_back.ensures.items in
    push-seen p.lengths.items c.args.bytes p.taken p.most p.stopped c.push_back.new.self c.self.invariant.1 c.requires.wide is
    ∙ ap (λ (v : InTransit). record v { left = v.left ++ c.args.bytes ∷ [] }) c.self.view_is

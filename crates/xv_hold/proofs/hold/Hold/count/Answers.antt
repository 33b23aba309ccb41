use Rattle.std.proofs.Common.{rules, ◌≡◌, get_or, ap, sym, ◌∙◌}
use Rattle.xv_hold.specs.Messages.{Hold, count}
use Rattle.xv_hold.proofs.hold.Hold.count.Goals as goal

pub returns-in-Some : goal.returns-in-Some
returns-in-Some c =
    let read : c.in-Some.count.now ≡ get_or c.self.inside.counts.items c.args.unit.0 0 = search rules in
    read ∙ c.self.invariant.0.counted c.args.unit.0 ∙ ap (λ (v : Hold). count v c.args.unit.0) c.self.view_is

pub returns-in-None : goal.returns-in-None
returns-in-None c =
    let past : get_or c.self.inside.counts.items c.args.unit.0 0 ≡ 0 = search rules in
    sym past ∙ c.self.invariant.0.counted c.args.unit.0 ∙ ap (λ (v : Hold). count v c.args.unit.0) c.self.view_is

use Rattle.std.proofs.Common.{rules, ◌≡◌, get_or, ap, sym, ◌∙◌}
use Rattle.xv_outbox.specs.Messages.{Outbox, count}
use Rattle.xv_outbox.proofs.Counted.{count-messages}
use Rattle.xv_outbox.proofs.outbox.Outbox.count.Goals as goal

pub returns-in-Some : goal.returns-in-Some
returns-in-Some c =
    let read : c.in-Some.count.now ≡ get_or c.self.inside.counts.items c.args.unit.0 0 = search rules in
    read
    ∙ c.self.invariant.1.counted c.args.unit.0
    ∙ sym (count-messages c.self.inside.layout c.self.inside.contents c.args.unit.0 c.self.inside.queue.items)
    ∙ ap (λ (o : Outbox). count o c.args.unit.0) c.self.view_is

pub returns-in-None : goal.returns-in-None
returns-in-None c =
    let past : get_or c.self.inside.counts.items c.args.unit.0 0 ≡ 0 = search rules in
    sym past
    ∙ c.self.invariant.1.counted c.args.unit.0
    ∙ sym (count-messages c.self.inside.layout c.self.inside.contents c.args.unit.0 c.self.inside.queue.items)
    ∙ ap (λ (o : Outbox). count o c.args.unit.0) c.self.view_is

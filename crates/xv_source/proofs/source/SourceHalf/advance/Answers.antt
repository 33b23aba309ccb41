use Rattle.std.proofs.Common.{sym, ◌∙◌}
use Rattle.xv_source.proofs.Advancing.{advances}
use Rattle.xv_source.proofs.source.SourceHalf.advance.Goals as goal

pub returns-clause-step : goal.returns-clause-step
returns-clause-step g c = λ job v allows long.
    advances job v c.args.disk c.args.length c.send_off-count.result c.args.self.now c.send_off-count.new.self allows long (sym c.advance_waits.ensures ∙ c.in_default.is) c.send_off-count.ensures.count c.send_off-count.ensures.sent

use Rattle.std.proofs.Common.{sym, ◌∙◌, arith}
use Rattle.xv_driver.proofs.Listed.{round-at, send-at, deliver-at, end-at}
use Rattle.xv_driver.proofs.order.later_event.Goals as goal

pub returns-then-index-sends : goal.returns-then-index-sends
returns-then-index-sends c = c.round_event.ensures ∙ sym (round-at c.args.streams c.args.index (omega arith))

pub returns-then-index-deliveries : goal.returns-then-index-deliveries
returns-then-index-deliveries c = sym (send-at c.args.streams c.args.index (omega arith) (omega arith))

pub returns-then-index-ends : goal.returns-then-index-ends
returns-then-index-ends c = sym (deliver-at c.args.streams c.args.index (omega arith) (omega arith))

pub returns-else-index-ends : goal.returns-else-index-ends
returns-else-index-ends c = c.end_event.ensures ∙ sym (end-at c.args.streams c.args.index (omega arith))

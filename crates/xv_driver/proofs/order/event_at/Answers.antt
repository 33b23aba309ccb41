use Rattle.std.proofs.Common.{◌∙◌, arith}
use Rattle.xv_driver.proofs.Listed.{is-guest, is-copy, is-later, length-later}
use Rattle.xv_driver.proofs.order.event_at.Goals as goal

pub returns-then-index-numbers : goal.returns-then-index-numbers
returns-then-index-numbers c = λ job of. is-guest job c.args.index c.args.numbers.guests of.each_guest c.if-index-numbers.true

pub returns-then-index-copies : goal.returns-then-index-copies
returns-then-index-copies c = λ job of.
    c.copy_event.ensures ∙ is-copy job c.args.index c.args.numbers.guests c.args.numbers.disks of.each_guest of.each_disk c.if-index-numbers.false c.if-index-copies.true

pub returns-else-index-copies : goal.returns-else-index-copies
returns-else-index-copies c = λ job of.
    c.later_event.ensures ∙ is-later job c.args.index c.args.numbers.guests c.args.numbers.disks c.args.numbers.streams of.each_guest of.each_disk of.each_stream c.if-index-copies.false

pub later_event-requires-clause-within : goal.later_event-requires-clause-within
later_event-requires-clause-within c = omega (arith, length-later c.args.numbers.streams, c.requires.within, c.if-index-copies.false)

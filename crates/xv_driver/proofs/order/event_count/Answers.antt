use Rattle.xv_driver.proofs.Listed.{counted}
use Rattle.xv_driver.proofs.order.event_count.Goals as goal

pub returns-clause-exactly : goal.returns-clause-exactly
returns-clause-exactly c = λ job of. counted job c.args.numbers.guests c.args.numbers.disks c.args.numbers.streams of.each_guest of.each_disk of.each_stream

use Rattle.std.proofs.Common.{false, arith}
use Rattle.xv_text.proofs.Progress.{count_few}
use Rattle.xv_script.specs.Script.{reader}
use Rattle.xv_script.proofs.read.read_counted.Goals as goal

pub read_lines-requires-clause-numbered : goal.read_lines-requires-clause-numbered
read_lines-requires-clause-numbered c = omega (arith, count_few (reader c.args.counts) (record { lines = c.new.result.items; stopped = false }) c.args.text.now)

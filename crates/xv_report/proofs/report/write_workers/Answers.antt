use Rattle.std.proofs.Common.{◌∙◌, arith}
use Rattle.xv_report.specs.Texts.{worker_row}
use Rattle.xv_io.proofs.Took.{at_text}
use Rattle.xv_report.proofs.Took.{rows-front}
use Rattle.xv_report.proofs.report.write_workers.Goals as goal

pub returns-in_err-write_text-clause-front : goal.returns-in_err-write_text-clause-front
returns-in_err-write_text-clause-front g c =
    rows-front worker_row c.args.counts.now _ _ _ c.loop-count.count-index _ (omega arith) c.loop-count.invariant.0
    (at_text _ _ _ _ (c.bytes.ensures.exactly ∙ c.worker_line.ensures) c.write_text.ensures.front)

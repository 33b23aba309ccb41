use Rattle.xv_report.specs.Texts.{image_text}
use Rattle.xv_io.proofs.Took.{front-first, front-last, front-whole}
use Rattle.xv_job.specs.Written.{job_of}
use Rattle.xv_core.specs.Seen.{view_of}
use Rattle.xv_parts.specs.Sides.{sources, dests}
use Rattle.xv_top.specs.Replay.{totals_text, result_text}
use Rattle.xv_top.proofs.Results.{report-is, result-is, written}
use Rattle.xv_top.proofs.output.write_result.Goals as goal

pub returns-in_err-write_totals-clause-front : goal.returns-in_err-write_totals-clause-front
returns-in_err-write_totals-clause-front g c =
    let m = c.args.machine.now in
    front-first (g.O.Sink.taken c.args.output.now) (g.O.Sink.taken c.write_totals.new.output) (totals_text c.args.form c.totals.result) (image_text (sources (job_of m.job) (view_of m)) (dests (job_of m.job) (view_of m))) (result_text c.args.form (job_of m.job) m.journal)
    c.write_totals.ensures.front (report-is c.args.form m c.totals.result c.totals.ensures)

pub returns-in_err-write_image-clause-front : goal.returns-in_err-write_image-clause-front
returns-in_err-write_image-clause-front g c =
    let m = c.args.machine.now in
    front-last (g.O.Sink.taken c.args.output.now) (g.O.Sink.taken c.write_totals.new.output) (g.O.Sink.taken c.write_image.new.sink) (totals_text c.args.form c.totals.result) (image_text c.source.result.now.contents c.dest.result.now.contents) (result_text c.args.form (job_of m.job) m.journal)
    c.in_ok-write_totals.ensures.whole c.write_image.ensures.front
    (result-is c.args.form m c.totals.result c.source.result.now c.dest.result.now c.requires c.totals.ensures c.source.ensures.told c.dest.ensures.told)

pub returns-clause-whole : goal.returns-clause-whole
returns-clause-whole g c =
    let m = c.args.machine.now in
    written (g.O.Sink.taken c.args.output.now) (g.O.Sink.taken c.write_totals.new.output) (g.O.Sink.taken c.write_image.new.sink) (g.O.Sink.taken c.hand_on.new.output) (totals_text c.args.form c.totals.result) (image_text c.source.result.now.contents c.dest.result.now.contents) (result_text c.args.form (job_of m.job) m.journal)
    c.in_ok-write_totals.ensures.whole c.in_ok-write_image.ensures.whole c.hand_on.ensures.stays
    (result-is c.args.form m c.totals.result c.source.result.now c.dest.result.now c.requires c.totals.ensures c.source.ensures.told c.dest.ensures.told)

pub returns-clause-front : goal.returns-clause-front
returns-clause-front g c =
    let m = c.args.machine.now in
    front-whole (g.O.Sink.taken c.args.output.now) (g.O.Sink.taken c.hand_on.new.output) (result_text c.args.form (job_of m.job) m.journal)
    (written (g.O.Sink.taken c.args.output.now) (g.O.Sink.taken c.write_totals.new.output) (g.O.Sink.taken c.write_image.new.sink) (g.O.Sink.taken c.hand_on.new.output) (totals_text c.args.form c.totals.result) (image_text c.source.result.now.contents c.dest.result.now.contents) (result_text c.args.form (job_of m.job) m.journal)
    c.in_ok-write_totals.ensures.whole c.in_ok-write_image.ensures.whole c.hand_on.ensures.stays
    (result-is c.args.form m c.totals.result c.source.result.now c.dest.result.now c.requires c.totals.ensures c.source.ensures.told c.dest.ensures.told))

pub returns-in_err-hand_on-clause-front : goal.returns-in_err-hand_on-clause-front
returns-in_err-hand_on-clause-front g c =
    let m = c.args.machine.now in
    front-whole (g.O.Sink.taken c.args.output.now) (g.O.Sink.taken c.hand_on.new.output) (result_text c.args.form (job_of m.job) m.journal)
    (written (g.O.Sink.taken c.args.output.now) (g.O.Sink.taken c.write_totals.new.output) (g.O.Sink.taken c.write_image.new.sink) (g.O.Sink.taken c.hand_on.new.output) (totals_text c.args.form c.totals.result) (image_text c.source.result.now.contents c.dest.result.now.contents) (result_text c.args.form (job_of m.job) m.journal)
    c.in_ok-write_totals.ensures.whole c.in_ok-write_image.ensures.whole c.hand_on.ensures.stays
    (result-is c.args.form m c.totals.result c.source.result.now c.dest.result.now c.requires c.totals.ensures c.source.ensures.told c.dest.ensures.told))

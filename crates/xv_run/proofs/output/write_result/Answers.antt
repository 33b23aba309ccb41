use Rattle.xv_report.specs.Texts.{image_text}
use Rattle.xv_io.proofs.Took.{front-first, front-last, front-whole}
use Rattle.xv_job.specs.Written.{job_of}
use Rattle.xv_top.specs.Replay.{image_of}
use Rattle.xv_top.proofs.Results.{written}
use Rattle.xv_run.specs.Run.{counted_text, result_text}
use Rattle.xv_run.proofs.Printing.{report-first, report-image}
use Rattle.xv_run.proofs.output.write_result.Goals as goal

pub returns-in_err-write_counted-clause-front : goal.returns-in_err-write_counted-clause-front
returns-in_err-write_counted-clause-front g c =
    let m = c.args.machine.now in
    let counts = c.args.counts.now in
    front-first _ _ (counted_text c.args.form c.totals.result counts) (image_of (job_of m.job) m.journal) (result_text c.args.form (job_of m.job) m.journal counts.finish)
    c.write_counted.ensures.front (report-first c.args.form m c.totals.result counts counts.finish c.totals.ensures c.requires.counted)

pub returns-in_err-write_image-clause-front : goal.returns-in_err-write_image-clause-front
returns-in_err-write_image-clause-front g c =
    let m = c.args.machine.now in
    let counts = c.args.counts.now in
    front-last _ _ _ (counted_text c.args.form c.totals.result counts) (image_text c.source.result.now.contents c.dest.result.now.contents) (result_text c.args.form (job_of m.job) m.journal counts.finish)
    c.in_ok-write_counted.ensures.whole c.write_image.ensures.front
    (report-image c.args.form m c.totals.result counts counts.finish c.source.result.now c.dest.result.now c.requires.in_memory c.totals.ensures c.requires.counted c.source.ensures.told c.dest.ensures.told)

pub returns-clause-whole : goal.returns-clause-whole
returns-clause-whole g c =
    let m = c.args.machine.now in
    let counts = c.args.counts.now in
    written _ _ _ _ (counted_text c.args.form c.totals.result counts) (image_text c.source.result.now.contents c.dest.result.now.contents) (result_text c.args.form (job_of m.job) m.journal counts.finish)
    c.in_ok-write_counted.ensures.whole c.in_ok-write_image.ensures.whole c.hand_on.ensures.stays
    (report-image c.args.form m c.totals.result counts counts.finish c.source.result.now c.dest.result.now c.requires.in_memory c.totals.ensures c.requires.counted c.source.ensures.told c.dest.ensures.told)

pub returns-clause-front : goal.returns-clause-front
returns-clause-front g c =
    let m = c.args.machine.now in
    let counts = c.args.counts.now in
    front-whole _ _ (result_text c.args.form (job_of m.job) m.journal counts.finish)
    (written _ _ _ _ (counted_text c.args.form c.totals.result counts) (image_text c.source.result.now.contents c.dest.result.now.contents) (result_text c.args.form (job_of m.job) m.journal counts.finish)
    c.in_ok-write_counted.ensures.whole c.in_ok-write_image.ensures.whole c.hand_on.ensures.stays
    (report-image c.args.form m c.totals.result counts counts.finish c.source.result.now c.dest.result.now c.requires.in_memory c.totals.ensures c.requires.counted c.source.ensures.told c.dest.ensures.told))

pub returns-in_err-hand_on-clause-front : goal.returns-in_err-hand_on-clause-front
returns-in_err-hand_on-clause-front g c =
    let m = c.args.machine.now in
    let counts = c.args.counts.now in
    front-whole _ _ (result_text c.args.form (job_of m.job) m.journal counts.finish)
    (written _ _ _ _ (counted_text c.args.form c.totals.result counts) (image_text c.source.result.now.contents c.dest.result.now.contents) (result_text c.args.form (job_of m.job) m.journal counts.finish)
    c.in_ok-write_counted.ensures.whole c.in_ok-write_image.ensures.whole c.hand_on.ensures.stays
    (report-image c.args.form m c.totals.result counts counts.finish c.source.result.now c.dest.result.now c.requires.in_memory c.totals.ensures c.requires.counted c.source.ensures.told c.dest.ensures.told))

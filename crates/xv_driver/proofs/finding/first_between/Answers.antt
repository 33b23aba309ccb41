use Rattle.std.proofs.Common.{arith}
use Rattle.std.specs.Prelude.{drop, take}
use Rattle.xv_model.specs.Driver.{driver_events, first_able}
use Rattle.xv_job.specs.Written.{job_of}
use Rattle.xv_core.specs.Seen.{view_of}
use Rattle.xv_driver.proofs.Able.{listed-fits, able-here, able-behind}
use Rattle.xv_driver.proofs.Listed.{counted}
use Rattle.xv_driver.proofs.finding.first_between.Goals as goal

pub event_at-event-requires-clause-within : goal.event_at-event-requires-clause-within
event_at-event-requires-clause-within g c =
    let of = c.requires.of_job in
    omega (arith, counted (job_of c.args.migration.now.job) _ _ _ of.each_guest of.each_disk of.each_stream, c.requires.within, c.loop-index-test.true)

pub can-requires : goal.can-requires
can-requires g c =
    let job = job_of c.args.migration.now.job in
    listed-fits job c.loop-index.index c.event_at-event.result (omega (arith, c.requires.within, c.loop-index-test.true)) (c.event_at-event.ensures job c.requires.of_job)

pub returns-then-can : goal.returns-then-can
returns-then-can g c =
    let m = c.args.migration.now in
    let job = job_of m.job in
    let found = first_able job (view_of m) (drop c.args.first (take c.args.end (driver_events job))) in
    able-here job (view_of m) c.loop-index.index c.args.end c.event_at-event.result found c.can.result c.loop-index-test.true c.requires.within (c.event_at-event.ensures job c.requires.of_job) c.can.ensures c.if-can.true c.loop-index.invariant

pub loop-index-preserved : goal.loop-index-preserved
loop-index-preserved g c =
    let m = c.args.migration.now in
    let job = job_of m.job in
    let found = first_able job (view_of m) (drop c.args.first (take c.args.end (driver_events job))) in
    able-behind job (view_of m) c.loop-index.index c.args.end c.event_at-event.result found c.can.result c.loop-index-test.true c.requires.within (c.event_at-event.ensures job c.requires.of_job) c.can.ensures c.if-can.false c.loop-index.invariant

use Rattle.std.proofs.Common.{◌∙◌, arith}
use Rattle.xv_core.specs.Keeping.{IsKept}
use Rattle.xv_core.proofs.Stepped.Origins.{origin-over, journal-within, journal-small}
use Rattle.xv_driver.proofs.Driving.{step-grows, step-nears, step-driven, driven-more, driven-before, driven-origin}
use Rattle.xv_driver.proofs.finishing.finish.Goals as goal

pub loop-event-preserved : goal.loop-event-preserved
loop-event-preserved g c =
    let m = c.loop-event.migration in
    let n = c.step.new.self in
    let e = c.in-Some.event in
    let next = c.in-Some.ensures in
    let so_far = c.loop-event.invariant in
    record {
      driven = λ (kept : IsKept n). driven-more c.loop-event.grown c.args.migration.now m n (so_far.driven next.kept) (step-driven m n e c.step.result next.event next.fits next.can c.step.ensures kept);
      grew = omega (arith, so_far.grew, step-grows m n e c.step.result next.can c.step.ensures);
      job = c.step.ensures.job ∙ so_far.job;
    }

pub loop-event-smaller : goal.loop-event-smaller
loop-event-smaller g c =
    let next = c.in-Some.ensures in
    step-nears c.loop-event.migration c.step.new.self c.in-Some.event c.step.result next.kept next.fits next.can c.step.ensures

pub overflow_add-grown : goal.overflow_add-grown
overflow_add-grown g c = omega (arith, c.loop-event.invariant.grew, journal-small c.loop-event.migration c.in-Some.ensures.kept)

pub returns : goal.returns
returns g c =
    let m = c.args.migration.now in
    let n = c.loop-event.migration in
    let k = c.loop-event.grown in
    let last = c.in_default.ensures in
    let driven = c.loop-event.invariant.driven last.kept in
    record {
      finished = last.none;
      grew = c.loop-event.invariant.grew;
      within = journal-within n last.kept;
      before = driven-before k m n driven;
      driven = driven;
      job = c.loop-event.invariant.job;
      origin = λ start h. origin-over start m n h (driven-origin k m n driven);
      kept = last.kept;
    }

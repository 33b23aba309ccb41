use Rattle.std.proofs.Common.{◌<◌, ◌%◌, ℕ, List, length, Some, ap, arith, ◌∙◌}
use Rattle.std.proofs.lemmas.Nat.{mod_below}
use Rattle.xv_model.specs.Step.{Entry}
use Rattle.xv_model.specs.Driver.{driver_events}
use Rattle.xv_job.specs.Written.{job_of}
use Rattle.xv_core.specs.Seen.{view_of}
use Rattle.xv_driver.proofs.Able.{next-behind, next-before, is-next}
use Rattle.xv_driver.proofs.Listed.{numbers-same}
use Rattle.xv_driver.proofs.finding.next.Goals as goal

pub first_between-requires-clause-of_job : goal.first_between-requires-clause-of_job
first_between-requires-clause-of_job g c = numbers-same c.job.result.now c.args.migration.now.job _ _ _ c.job.ensures c.numbers_of-numbers.ensures.of_job

pub first_between-requires-clause-within : goal.first_between-requires-clause-within
first_between-requires-clause-within g c =
    let m = c.args.migration.now in
    let of = numbers-same c.job.result.now m.job _ _ _ c.job.ensures c.numbers_of-numbers.ensures.of_job in
    omega (arith, c.event_count-count.ensures.exactly (job_of m.job) of)

pub first_between-requires-2-clause-of_job : goal.first_between-requires-2-clause-of_job
first_between-requires-2-clause-of_job g c = numbers-same c.job.result.now c.args.migration.now.job _ _ _ c.job.ensures c.numbers_of-numbers.ensures.of_job

pub first_between-requires-2-clause-within : goal.first_between-requires-2-clause-within
first_between-requires-2-clause-within g c =
    let m = c.args.migration.now in
    let of = numbers-same c.job.result.now m.job _ _ _ c.job.ensures c.numbers_of-numbers.ensures.of_job in
    let count = c.event_count-count.ensures.exactly (job_of m.job) of in
    let place = ap (λ (j : List Entry). length j % c.from.result) c.journal.ensures.exactly ∙ ap (λ (k : ℕ). length m.journal % k) (c.from.ensures ∙ count) in
    let events = length (driver_events (job_of m.job)) in
    let some : 0 < events = omega (arith, count, c.event_count-count.ensures.some) in
    omega (arith, place, mod_below (length m.journal) events some)

pub returns-in-Some : goal.returns-in-Some
returns-in-Some g c =
    let m = c.args.migration.now in
    let kept = c.journal.ensures.kept in
    let of = numbers-same c.job.result.now m.job _ _ _ c.job.ensures c.numbers_of-numbers.ensures.of_job in
    let count = c.event_count-count.ensures.exactly (job_of m.job) of in
    let place = ap (λ (j : List Entry). length j % c.from.result) c.journal.ensures.exactly ∙ ap (λ (k : ℕ). length m.journal % k) (c.from.ensures ∙ count) in
    let event = next-behind (job_of m.job) (view_of m) (length m.journal) _ c.event_count-count.result c.in-Some.event count place c.in-Some.ensures in
    let is = is-next (job_of m.job) (view_of m) (length m.journal) (Some c.in-Some.event) kept.good kept.view event in
    record { event = event; none = tt; some = is.some; fits = is.goes.0; can = is.goes.1; kept = kept }

pub returns : goal.returns
returns g c =
    let m = c.args.migration.now in
    let kept = c.journal.ensures.kept in
    let of = numbers-same c.job.result.now m.job _ _ _ c.job.ensures c.numbers_of-numbers.ensures.of_job in
    let count = c.event_count-count.ensures.exactly (job_of m.job) of in
    let place = ap (λ (j : List Entry). length j % c.from.result) c.journal.ensures.exactly ∙ ap (λ (k : ℕ). length m.journal % k) (c.from.ensures ∙ count) in
    let event = next-before (job_of m.job) (view_of m) (length m.journal) _ c.event_count-count.result c.first_between-2.result count place c.in_default.ensures c.first_between-2.ensures in
    let is = is-next (job_of m.job) (view_of m) (length m.journal) c.first_between-2.result kept.good kept.view event in
    record { event = event; none = is.none; some = is.some; fits = is.goes.0; can = is.goes.1; kept = kept }

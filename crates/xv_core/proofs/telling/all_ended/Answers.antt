use Rattle.std.proofs.Common.{◌∙◌, sym, ap, arith}
use Rattle.std.specs.Prelude.{◌≡◌, ◌<◌, ℕ, ◌+◌, nat_le, length, get_or, []}
use Rattle.xv_model.specs.Guest.{ended}
use Rattle.xv_job.specs.Written.{job_of}
use Rattle.xv_core.proofs.Totals.Told.{not-ended, each-ended}
use Rattle.xv_core.proofs.telling.all_ended.Goals as goal

pub returns-then-not-has_ended : goal.returns-then-not-has_ended
returns-then-not-has_ended c =
    let traces = (job_of c.args.job.now).traces in
    let guest = c.loop-guest.guest in
    let same : 0 + guest ≡ guest = omega arith in
    not-ended traces c.args.history.now.entries 0 guest (omega (arith, c.guests-guest-end.ensures.exactly))
    (ap (λ (n : ℕ). nat_le (length (get_or traces guest [])) (ended c.args.history.now.entries n)) same ∙ sym c.has_ended.ensures ∙ c.if-not-has_ended.true)

pub returns : goal.returns
returns c =
    let traces = (job_of c.args.job.now).traces in
    each-ended traces c.args.history.now.entries 0 (λ k lt.
    let same : 0 + k ≡ k = omega arith in
    let there : k < c.loop-guest.guest = omega (arith, c.guests-guest-end.ensures.exactly) in
    ap (λ (n : ℕ). nat_le (length (get_or traces k [])) (ended c.args.history.now.entries n)) same ∙ c.loop-guest.invariant k there)

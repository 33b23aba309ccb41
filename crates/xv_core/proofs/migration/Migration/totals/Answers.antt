use Rattle.std.proofs.Common.{◌∙◌, ◌-◌, ℕ, length, drop, sym, ap, arith}
use Rattle.std.specs.Prelude.{sum, count_by, nat_lt}
use Rattle.xv_base.specs.Units.{Shape, units}
use Rattle.xv_core.proofs.Totals.Told.{count-le-sum, totals-told}
use Rattle.xv_core.proofs.Totals.Issued.{few-in-all}
use Rattle.xv_core.proofs.migration.Migration.totals.Goals as goal

pub copied-requires-clause-each : goal.copied-requires-clause-each
copied-requires-clause-each g c = c.disks.ensures.exactly ∙ ap (λ (s : Shape). length s.disks) c.layout_of-layout.ensures ∙ sym (few-in-all _ c.self.invariant.0.running).disks

pub copied-requires-clause-few : goal.copied-requires-clause-few
copied-requires-clause-few g c = (few-in-all _ c.self.invariant.0.running).blocks

pub issued_from-requires-clause-each : goal.issued_from-requires-clause-each
issued_from-requires-clause-each g c = c.units-units.ensures.exactly ∙ ap units c.layout_of-layout.ensures ∙ sym (few-in-all _ c.self.invariant.0.running).issued_each

pub issued_from-requires-clause-few : goal.issued_from-requires-clause-few
issued_from-requires-clause-few g c = (few-in-all _ c.self.invariant.0.running).issued

pub issued_from-requires-2-clause-each : goal.issued_from-requires-2-clause-each
issued_from-requires-2-clause-each g c = c.units-units.ensures.exactly ∙ ap units c.layout_of-layout.ensures ∙ sym (few-in-all _ c.self.invariant.0.running).issued_each

pub made_from-requires-clause-each : goal.made_from-requires-clause-each
made_from-requires-clause-each g c = c.units-units.ensures.exactly ∙ ap units c.layout_of-layout.ensures ∙ sym (few-in-all _ c.self.invariant.0.running).issued_each

pub overflow_sub-result : goal.overflow_sub-result
overflow_sub-result g c = omega (arith, c.made_from.ensures, c.issued_from-2.ensures, count-le-sum (drop c.pages-pages.result c.self.inside.source.issued))

pub written-requires-clause-each : goal.written-requires-clause-each
written-requires-clause-each g c = c.units-units.ensures.exactly ∙ ap units c.layout_of-layout.ensures ∙ sym (few-in-all _ c.self.invariant.0.running).applied_each

pub written-requires-clause-few : goal.written-requires-clause-few
written-requires-clause-few g c = (few-in-all _ c.self.invariant.0.running).applied

pub returns : goal.returns
returns g c =
    let pages = c.pages-pages.ensures.exactly ∙ ap (λ (s : Shape). s.pages) c.layout_of-layout.ensures in
    let above : ℕ → ℕ = λ n. sum (drop n c.self.inside.source.issued) - count_by (λ (k : ℕ). nat_lt 0 k) (drop n c.self.inside.source.issued) in
    totals-told _ c.args.self.now c.len.result c.faulted.result c.len-2.result c.copied.result c.rounds.result c.issued_from.result _ c.written.result c.left.result c.self.invariant.0.running c.self.view_is
    c.len.ensures.exactly c.faulted.ensures (c.len-2.ensures ∙ c.self.inside.journal.ok.0) c.copied.ensures c.rounds.ensures c.issued_from.ensures
    (ap (λ (n : ℕ). n - c.made_from.result) c.issued_from-2.ensures ∙ ap (λ (n : ℕ). sum (drop c.pages-pages.result c.self.inside.source.issued) - n) c.made_from.ensures ∙ ap above pages)
    c.written.ensures c.left.ensures

use Rattle.std.proofs.Common.{ap}
use Rattle.xv_shared.specs.Held.{ByKind}
use Rattle.xv_shared.specs.Crews.{sums}
use Rattle.xv_shared.proofs.Holding.{same-four}
use Rattle.xv_shared.proofs.Summing.{settled, all-numbers}
use Rattle.xv_shared.proofs.closing.end.Goals as goal

pub returns-clause-sums : goal.returns-clause-sums
returns-clause-sums g c =
    let h = c.locked.invariant in
    let a = c.audit.ensures in
    let b = c.audit-2.ensures in
    let d = c.audit-3.ensures in
    let e = c.audit-4.ensures in
    let p = c.gather.ensures in
    same-four _ _
    (settled _ _ _ _ _ _ _ _ _ _ _ _ (ap (λ (k : ByKind). k.done) h.spare) a.backed a.parts a.amount a.total p.done_parts p.done c.requires.done c.audit-5.ensures.whole (ap (λ (k : ByKind). k.done) h.counted))
    (settled _ _ _ _ _ _ _ _ _ _ _ _ (ap (λ (k : ByKind). k.queued) h.spare) b.backed b.parts b.amount b.total p.queued_parts p.queued c.requires.queued c.audit-6.ensures.whole (ap (λ (k : ByKind). k.queued) h.counted))
    (settled _ _ _ _ _ _ _ _ _ _ _ _ (ap (λ (k : ByKind). k.faulted) h.spare) d.backed d.parts d.amount d.total p.faulted_parts p.faulted c.requires.faulted c.audit-7.ensures.whole (ap (λ (k : ByKind). k.faulted) h.counted))
    (settled _ _ _ _ _ _ _ _ _ _ _ _ (ap (λ (k : ByKind). k.other) h.spare) e.backed e.parts e.amount e.total p.other_parts p.other c.requires.other c.audit-8.ensures.whole (ap (λ (k : ByKind). k.other) h.counted))

pub returns-clause-all : goal.returns-clause-all
returns-clause-all g c = all-numbers c.locked.inside.migration c.args.passes.items c.journal.ensures.kept (returns-clause-sums g c)

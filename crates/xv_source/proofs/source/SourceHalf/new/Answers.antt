use Rattle.xv_source.proofs.FreshHalf.{seen-fresh, kept-fresh}
use Rattle.xv_source.proofs.source.SourceHalf.new.Goals as goal

pub invariant_of-result : goal.invariant_of-result
invariant_of-result g c =
    let e = c.in-Some.ensures in
    let p = c.in-Some.parts in
    kept-fresh c.args.layout.now c.args.config.now _ 0 p.disks.items p.dirty p.to_send p.outbox c.new-2.result p.unit.items e.good c.requires.layout c.requires.limits e.disks e.dirty e.to_send e.outbox c.new-2.ensures e.unit

pub returns-clause-half : goal.returns-clause-half
returns-clause-half g c =
    let e = c.in-Some.ensures in
    let p = c.in-Some.parts in
    seen-fresh c.args.layout.now c.args.config.now _ _ p.disks.items p.dirty p.to_send p.outbox c.new-2.result e.disks e.dirty e.to_send e.outbox c.new-2.ensures

use Rattle.std.proofs.Common.{lit<}
use Rattle.xv_source_tests.proofs.Stays.{round-stays, stays-uncopied, unit-of}
use Rattle.xv_source_tests.proofs.source_tests.round.Goals as goal

pub side-requires : goal.side-requires
side-requires c =
    let half = c.args.half.now in
    let new = c.round-begun.new.self in
    unit-of _ new 0 (stays-uncopied _ half new c.requires.new (round-stays c.round-begun.result half new c.round-begun.ensures.step)) (lit< tt)

pub returns-clause-new : goal.returns-clause-new
returns-clause-new c =
    let half = c.args.half.now in
    let new = c.round-begun.new.self in
    stays-uncopied _ half new c.requires.new (round-stays c.round-begun.result half new c.round-begun.ensures.step)

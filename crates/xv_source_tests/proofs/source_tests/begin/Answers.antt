use Rattle.std.proofs.Common.{lit<}
use Rattle.xv_source_tests.proofs.Stays.{begin-stays, stays-uncopied, unit-of}
use Rattle.xv_source_tests.proofs.source_tests.begin.Goals as goal

pub side-requires : goal.side-requires
side-requires c =
    let half = c.args.half.now in
    let new = c.begin-begun.new.self in
    unit-of _ new 1 (stays-uncopied _ half new c.requires.new (begin-stays 0 c.begin-begun.result half new c.begin-begun.ensures.step)) (lit< tt)

pub returns-clause-new : goal.returns-clause-new
returns-clause-new c =
    let half = c.args.half.now in
    let new = c.begin-begun.new.self in
    stays-uncopied _ half new c.requires.new (begin-stays 0 c.begin-begun.result half new c.begin-begun.ensures.step)

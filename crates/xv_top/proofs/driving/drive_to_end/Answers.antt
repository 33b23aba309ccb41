use Rattle.xv_top.proofs.Driven.{is-in-memory, has-driven}
use Rattle.xv_top.proofs.driving.drive_to_end.Goals as goal

pub returns-clause-in_memory : goal.returns-clause-in_memory
returns-clause-in_memory c =
    let start = c.args.machine.now in
    let ends = c.finish.ensures in
    is-in-memory start.job start c.finish.new.migration c.requires ends.job ends.kept ends.origin

pub returns-clause-driven : goal.returns-clause-driven
returns-clause-driven c =
    let start = c.args.machine.now in
    let ends = c.finish.ensures in
    has-driven start.job start c.finish.new.migration c.finish.result c.requires ends.job
    (is-in-memory start.job start c.finish.new.migration c.requires ends.job ends.kept ends.origin)
    ends.driven ends.finished

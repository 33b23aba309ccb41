use Rattle.std.proofs.Common.{refl}
use Rattle.xv_source.proofs.Paging.{sends-page}
use Rattle.xv_source.proofs.source.SourceHalf.send_page.Goals as goal

pub returns-in-Ok-clause-sent : goal.returns-in-Ok-clause-sent
returns-in-Ok-clause-sent g c =
    let e = c.in-Ok.ensures in
    sends-page _ c.args.self.now c.self.inside.outbox c.issue_read.new.outbox c.remove.new.self c.args.page c.args.at _ _ _ c.self.view_is refl refl refl c.remove.ensures e.issued _ c.page_size-size.ensures.exactly c.requires.page e.gives

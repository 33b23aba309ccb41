use Rattle.std.specs.Prelude.{is_err}
use Rattle.xv_source.proofs.Acting.{guest-acted-alone, acts-over}
use Rattle.xv_source.proofs.source.SourceHalf.guest_alone.Goals as goal

pub returns-clause-step : goal.returns-clause-step
returns-clause-step g c = λ job v guest allows over on_source next.
    guest-acted-alone (is_err c.operate-made.result) job v guest c.acted.result c.args.self.now c.operate-made.new.self c.args.op.now
    (acts-over job v guest c.args.op.now c.args.self.now allows over on_source next c.requires.legal) c.operate-made.ensures.acted c.acted.ensures

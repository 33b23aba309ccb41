use Rattle.std.proofs.Common.{◌∙◌, ap, sym, subst, false, take, List}
use Rattle.xv_frame.specs.Frame.{Message}
use Rattle.xv_streams.specs.Streamed.{lane}
use Rattle.xv_streams.specs.Fronts.{PutsGroup}
use Rattle.xv_source.specs.Half.{Source}
use Rattle.xv_source.specs.Step.{joined_messages}
use Rattle.xv_source.proofs.Batching.{batch-back, past-seen}
use Rattle.xv_source.proofs.source.SourceHalf.send_batch.Goals as goal

pub returns-in-Ok-clause-sent : goal.returns-in-Ok-clause-sent
returns-in-Ok-clause-sent g c =
    past-seen c.self.inside.layout c.self.inside.config (g.S.UnitDevice.told c.self.inside.device) (g.S.UnitDevice.faults c.self.inside.device) c.self.inside.disks.items c.self.inside.dirty c.self.inside.to_send c.self.inside.rounds
    c.self.inside.outbox c.take_off.new.outbox c.self.inside.credit c.take_off.new.credit c.args.count c.args.self.now c.self.view_is c.take_off.ensures.outbox c.take_off.ensures.credit

pub returns-in-Ok-clause-put : goal.returns-in-Ok-clause-put
returns-in-Ok-clause-put g c =
    let same = sym (batch-back c.self.inside.outbox.messages c.args.count) ∙ ap (λ (h : Source). take c.args.count (joined_messages h.messages h.contents)) c.self.view_is in
    subst (λ (x : List Message). PutsGroup c.args.streams.now.format x false (lane c.args.streams.now c.args.stream) (lane c.put_batch.new.streams c.args.stream)) same c.in-Ok.ensures.put

use Rattle.xv_io.specs.Io.{TookMore}
use Rattle.xv_script.specs.declared.line.Line.TheVariants.{Step}
use Rattle.xv_top.specs.Playing.{IsLineWritten, IsLineCut}
use Rattle.xv_top.proofs.Played.{reads-grow, reads-few, line-begun, event-played, ok-with, err-with}
use Rattle.xv_top.proofs.playing.play_event.Goals as goal

pub behind-requires : goal.behind-requires
behind-requires g c =
    reads-grow c.args.migration.now c.step-turn.new.self c.args.event c.step-turn.result c.reads-before.result.now c.reads.result.now c.step-turn.ensures c.reads-before.ensures.exactly c.reads.ensures.exactly

pub push_turn-requires-clause-short : goal.push_turn-requires-clause-short
push_turn-requires-clause-short g c =
    reads-few c.args.migration.now c.step-turn.new.self c.args.event c.step-turn.result c.reads-before.result.now c.reads.result.now c.behind.result.now c.step-turn.ensures c.reads-before.ensures.exactly c.reads.ensures.exactly c.behind.ensures

pub returns-clause-whole : goal.returns-clause-whole
returns-clause-whole g c =
    let played = event-played c.args.migration.now c.step-turn.new.self c.args.event c.step-turn.result c.reads-before.result.now c.reads.result.now c.behind.result.now c.bytes.result.now c.step-turn.ensures c.reads.ensures.kept c.reads-before.ensures.exactly c.reads.ensures.exactly c.behind.ensures (line-begun _ _ _ _ c.bytes.ensures.exactly c.push_turn.ensures c.new-line.ensures) in
    ok-with c.write_text.result
    (TookMore (g.O.Sink.taken c.args.sink.now) (g.O.Sink.taken c.write_text.new.sink) c.bytes.result.now)
    (IsLineWritten c.args.migration.now (Step c.args.event) c.step-turn.new.self (g.O.Sink.taken c.args.sink.now) (g.O.Sink.taken c.write_text.new.sink))
    (λ took. (c.bytes.result.now, played, took)) c.write_text.ensures.whole

pub returns-clause-front : goal.returns-clause-front
returns-clause-front g c =
    let played = event-played c.args.migration.now c.step-turn.new.self c.args.event c.step-turn.result c.reads-before.result.now c.reads.result.now c.behind.result.now c.bytes.result.now c.step-turn.ensures c.reads.ensures.kept c.reads-before.ensures.exactly c.reads.ensures.exactly c.behind.ensures (line-begun _ _ _ _ c.bytes.ensures.exactly c.push_turn.ensures c.new-line.ensures) in
    err-with c.write_text.result
    (IsLineCut c.args.migration.now (Step c.args.event) c.step-turn.new.self (g.O.Sink.taken c.args.sink.now) (g.O.Sink.taken c.write_text.new.sink))
    (c.bytes.result.now, played, c.write_text.ensures.front)

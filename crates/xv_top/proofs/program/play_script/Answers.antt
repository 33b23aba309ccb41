use Rattle.xv_top.proofs.Ran.{replayed, has-run, transcript-taken, output-whole, output-front, cut-front}
use Rattle.xv_top.proofs.Printed.{printed-is}
use Rattle.xv_top.proofs.program.play_script.Goals as goal

pub write_result-requires : goal.write_result-requires
write_result-requires g c =
    let played = c.in-Ok.ensures.played in
    (replayed c.args.machine.now.job c.args.machine.now c.replay_on.new.migration c.args.lines.now played.0 c.requires.begun c.journal.ensures.kept c.requires.script played.1).in_memory

pub returns-in-Ok-write_result-clause-ran : goal.returns-in-Ok-write_result-clause-ran
returns-in-Ok-write_result-clause-ran g c =
    let played = c.in-Ok.ensures.played in
    has-run c.args.machine.now.job c.args.machine.now c.replay_on.new.migration c.args.lines.now played.0 c.requires.begun c.journal.ensures.kept played.1
    (replayed c.args.machine.now.job c.args.machine.now c.replay_on.new.migration c.args.lines.now played.0 c.requires.begun c.journal.ensures.kept c.requires.script played.1)

pub returns-in-Ok-write_result-clause-written : goal.returns-in-Ok-write_result-clause-written
returns-in-Ok-write_result-clause-written g c =
    let played = c.in-Ok.ensures.played in
    output-whole c.args.form c.args.machine.now.job c.replay_on.new.migration c.args.lines.now played.0 (g.O.Sink.taken c.args.output.now) (g.O.Sink.taken c.replay_on.new.sink) (g.O.Sink.taken c.write_result.new.output)
    (replayed c.args.machine.now.job c.args.machine.now c.replay_on.new.migration c.args.lines.now played.0 c.requires.begun c.journal.ensures.kept c.requires.script played.1)
    played.2 c.in-Ok-write_result.ensures.whole

pub returns-in-Err-WriteFault-clause-front : goal.returns-in-Err-WriteFault-clause-front
returns-in-Err-WriteFault-clause-front g c =
    let played = c.in-Ok.ensures.played in
    output-front c.args.form c.args.machine.now.job c.replay_on.new.migration c.args.lines.now played.0 (g.O.Sink.taken c.args.output.now) (g.O.Sink.taken c.replay_on.new.sink) (g.O.Sink.taken c.write_result.new.output)
    (replayed c.args.machine.now.job c.args.machine.now c.replay_on.new.migration c.args.lines.now played.0 c.requires.begun c.journal.ensures.kept c.requires.script played.1)
    played.2 c.write_result.ensures.front

pub returns-in-Err-NoMemory-clause-front : goal.returns-in-Err-NoMemory-clause-front
returns-in-Err-NoMemory-clause-front g c =
    let played = c.in-Ok.ensures.played in
    output-front c.args.form c.args.machine.now.job c.replay_on.new.migration c.args.lines.now played.0 (g.O.Sink.taken c.args.output.now) (g.O.Sink.taken c.replay_on.new.sink) (g.O.Sink.taken c.write_result.new.output)
    (replayed c.args.machine.now.job c.args.machine.now c.replay_on.new.migration c.args.lines.now played.0 c.requires.begun c.journal.ensures.kept c.requires.script played.1)
    played.2 c.write_result.ensures.front

pub returns-in-Err-NoMemory-clause-memory : goal.returns-in-Err-NoMemory-clause-memory
returns-in-Err-NoMemory-clause-memory g c = λ _.
    let played = c.in-Ok.ensures.played in
    let short = c.write_result.ensures.memory (cc (c.in-Err-NoMemory.is, c.in-Err-NoMemory.field-0-is)) in (
      short.0,
      transcript-taken c.args.machine.now.job c.replay_on.new.migration c.args.lines.now played.0 (g.O.Sink.taken c.args.output.now) (g.O.Sink.taken c.replay_on.new.sink) (g.O.Sink.taken c.write_result.new.output)
          (replayed c.args.machine.now.job c.args.machine.now c.replay_on.new.migration c.args.lines.now played.0 c.requires.begun c.journal.ensures.kept c.requires.script played.1)
          played.2 short.1,
    )

pub returns-in-Err-clause-front : goal.returns-in-Err-clause-front
returns-in-Err-clause-front g c =
    cut-front c.args.form c.args.machine.now.job c.args.machine.now c.replay_on.new.migration c.args.lines.now (g.O.Sink.taken c.args.output.now) (g.O.Sink.taken c.replay_on.new.sink) c.requires.begun c.journal.ensures.kept c.requires.script c.in-Err.ensures.cut

pub returns-in-Ok-write_result-clause-in_memory : goal.returns-in-Ok-write_result-clause-in_memory
returns-in-Ok-write_result-clause-in_memory g c =
    let played = c.in-Ok.ensures.played in
    (replayed c.args.machine.now.job c.args.machine.now c.replay_on.new.migration c.args.lines.now played.0 c.requires.begun c.journal.ensures.kept c.requires.script played.1).in_memory

pub returns-in-Ok-write_result-clause-printed : goal.returns-in-Ok-write_result-clause-printed
returns-in-Ok-write_result-clause-printed g c =
    let played = c.in-Ok.ensures.played in
    let replay = (replayed c.args.machine.now.job c.args.machine.now c.replay_on.new.migration c.args.lines.now played.0 c.requires.begun c.journal.ensures.kept c.requires.script played.1) in
    printed-is c.args.form c.args.machine.now.job c.args.machine.now c.replay_on.new.migration c.args.lines.now played.0 (g.O.Sink.taken c.args.output.now) (g.O.Sink.taken c.replay_on.new.sink) (g.O.Sink.taken c.write_result.new.output)
    c.requires.begun c.journal.ensures.kept replay.of_job replay.in_memory played.1 played.2 c.in-Ok-write_result.ensures.whole

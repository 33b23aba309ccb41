use Rattle.std.proofs.Common.{refl, ◌∙◌}
use Rattle.xv_base.specs.declared.event.Event.TheVariants.{Guest}
use Rattle.xv_script.specs.declared.line.Line.{Line}
use Rattle.xv_script.specs.declared.line.Line.TheVariants.{Step}
use Rattle.xv_top.proofs.Later.{later_none, later_line, later-loses}
use Rattle.xv_top.proofs.Played.{playing-begins, playing-more, playing-cut, playing-all, line-in_job, err-with}
use Rattle.xv_top.proofs.playing.replay_on.Goals as goal

-- what stands for a line that is not there
abbrev no_line : Line
no_line = Step (Guest (record { 0 = 0 }))

pub loop-line-init : goal.loop-line-init
loop-line-init g c = record {
  later = later_none c.args.migration.now c.journal.ensures.kept;
  playing = playing-begins c.args.migration.now c.args.lines.now (g.O.Sink.taken c.args.sink.now);
  in_job = c.requires.in_job;
  quiet = refl;
}

pub play_line-requires : goal.play_line-requires
play_line-requires g c = record {
  in_job = (line-in_job c.args.migration.now.job c.loop-line.migration.job c.args.lines.now c.loop-line.line-index no_line c.loop-line.invariant.later.origin.rises.same_job c.loop-line-test.true c.loop-line.invariant.in_job).0;
}

pub loop-line-preserved : goal.loop-line-preserved
loop-line-preserved g c =
    let written = c.in_ok-play_line.ensures.whole in
    record {
      later = later_line c.args.migration.now c.loop-line.migration c.play_line.new.migration _ written.0 c.loop-line.invariant.later written.1;
      playing = playing-more c.args.migration.now c.loop-line.migration c.play_line.new.migration c.args.lines.now c.loop-line.line-index no_line (g.O.Sink.taken c.args.sink.now) (g.O.Sink.taken c.loop-line.sink) (g.O.Sink.taken c.play_line.new.sink) c.loop-line-test.true c.loop-line.invariant.playing written;
      in_job = (line-in_job c.args.migration.now.job c.loop-line.migration.job c.args.lines.now c.loop-line.line-index no_line c.loop-line.invariant.later.origin.rises.same_job c.loop-line-test.true c.loop-line.invariant.in_job).1;
      quiet = c.in_ok-play_line.ensures.quiet ∙ c.loop-line.invariant.quiet;
    }

pub returns-in_err-play_line-clause-cut : goal.returns-in_err-play_line-clause-cut
returns-in_err-play_line-clause-cut g c =
    err-with c.from_residual.result _
    (playing-cut c.args.migration.now c.loop-line.migration c.play_line.new.migration c.args.lines.now c.loop-line.line-index no_line (g.O.Sink.taken c.args.sink.now) (g.O.Sink.taken c.loop-line.sink) (g.O.Sink.taken c.play_line.new.sink) c.loop-line-test.true c.loop-line.invariant.playing c.in_err-play_line.ensures.front)

pub returns-in_err-play_line-clause-origin : goal.returns-in_err-play_line-clause-origin
returns-in_err-play_line-clause-origin g c =
    let cut = c.in_err-play_line.ensures.front in
    (later_line c.args.migration.now c.loop-line.migration c.play_line.new.migration _ cut.0 c.loop-line.invariant.later cut.1).origin

pub returns-in_err-play_line-clause-kept : goal.returns-in_err-play_line-clause-kept
returns-in_err-play_line-clause-kept g c =
    let cut = c.in_err-play_line.ensures.front in
    (later_line c.args.migration.now c.loop-line.migration c.play_line.new.migration _ cut.0 c.loop-line.invariant.later cut.1).kept

pub returns-clause-played : goal.returns-clause-played
returns-clause-played g c =
    playing-all c.args.migration.now c.loop-line.migration c.args.lines.now c.loop-line.line-index (g.O.Sink.taken c.args.sink.now) (g.O.Sink.taken c.loop-line.sink) c.loop-line-test.false c.loop-line.invariant.playing

pub returns-in_err-play_line-clause-loses_nothing : goal.returns-in_err-play_line-clause-loses_nothing
returns-in_err-play_line-clause-loses_nothing g c =
    let cut = c.in_err-play_line.ensures.front in
    later-loses c.args.migration.now c.play_line.new.migration (later_line c.args.migration.now c.loop-line.migration c.play_line.new.migration _ cut.0 c.loop-line.invariant.later cut.1)

pub returns-clause-loses_nothing : goal.returns-clause-loses_nothing
returns-clause-loses_nothing g c = later-loses c.args.migration.now c.loop-line.migration c.loop-line.invariant.later

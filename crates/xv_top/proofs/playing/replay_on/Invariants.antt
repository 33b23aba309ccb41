use Rattle.std.proofs.Common.{◌≡◌, true, drop}
use Rattle.std.specs.List.{list_all}
use Rattle.xv_job.specs.Written.{job_of}
use Rattle.xv_script.specs.Script.{is_in}
use Rattle.xv_top.proofs.Later.{IsLater}
use Rattle.xv_top.proofs.Played.{IsPlaying}
use Rattle.xv_top.proofs.playing.replay_on.Given as goal

abbrev pub invariant-loop-line : goal.invariant-loop-line
invariant-loop-line g l = record {
  later : IsLater l.fn.migration l.migration;
  playing : IsPlaying l.fn.migration l.fn.lines l.line-index l.migration (g.O.Sink.taken l.fn.sink) (g.O.Sink.taken l.sink);
  in_job : list_all (is_in (job_of l.fn.migration.job)) (drop l.line-index l.lines) ≡ true;
  quiet : g.O.Sink.faults l.sink ≡ g.O.Sink.faults l.fn.sink;
}

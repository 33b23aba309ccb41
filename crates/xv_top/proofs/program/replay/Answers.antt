use Rattle.std.proofs.Common.{refl, sym, subst, inr}
use Rattle.xv_io.specs.Io.{TookMore, TookFront}
use Rattle.xv_job.specs.Written.{Written, job_of}
use Rattle.xv_script.specs.Script.{IsScriptOf}
use Rattle.xv_top.specs.Replay.{transcript, output_text}
use Rattle.xv_top.proofs.Driven.{fault-same}
use Rattle.xv_top.proofs.Ran.{job-begun, is-begun}
use Rattle.xv_top.proofs.program.replay.Goals as goal

pub play_script-requires : goal.play_script-requires
play_script-requires g c = record {
  begun = is-begun c.args.job c.in-Ok.machine c.in-Ok.ensures.begun;
  script = subst (λ (w : Written). IsScriptOf (job_of w) c.args.lines.now) (sym (job-begun c.args.job c.in-Ok.machine c.in-Ok.ensures.begun)) c.requires.script;
}

pub returns-in-Ok-play_script-clause-written : goal.returns-in-Ok-play_script-clause-written
returns-in-Ok-play_script-clause-written g c =
    subst (λ (w : Written). TookMore (g.O.Sink.taken c.args.output.now) (g.O.Sink.taken c.play_script.new.output) (output_text c.args.form (job_of w) c.args.lines.now))
    (job-begun c.args.job c.in-Ok.machine c.in-Ok.ensures.begun) c.in-Ok-play_script.ensures.written

pub returns-in-Err-play_script-clause-front : goal.returns-in-Err-play_script-clause-front
returns-in-Err-play_script-clause-front g c =
    subst (λ (w : Written). TookFront (g.O.Sink.taken c.args.output.now) (g.O.Sink.taken c.play_script.new.output) (output_text c.args.form (job_of w) c.args.lines.now))
    (job-begun c.args.job c.in-Ok.machine c.in-Ok.ensures.begun) c.in-Err-play_script.ensures.front

pub returns-in-Err-play_script-clause-memory : goal.returns-in-Err-play_script-clause-memory
returns-in-Err-play_script-clause-memory g c = λ there.
    let short = c.play_script.ensures.memory (fault-same c.play_script.result _ c.in-Err-play_script.error _ c.in-Err-play_script.is refl there) in
    inr (
      short.0,
      subst (λ (w : Written). TookMore (g.O.Sink.taken c.args.output.now) (g.O.Sink.taken c.play_script.new.output) (transcript (job_of w) c.args.lines.now))
          (job-begun c.args.job c.in-Ok.machine c.in-Ok.ensures.begun) short.1,
    )

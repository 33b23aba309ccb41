use Rattle.std.specs.Prelude.{◌≡◌, true}
use Rattle.std.specs.List.{list_all}
use Rattle.std.proofs.Common.{◌∙◌, sym, subst}
use Rattle.xv_job.specs.Written.{Written, job_of}
use Rattle.xv_script.specs.Script.{is_in}
use Rattle.xv_top_tests.proofs.replay_tests.replayed.Goals as goal

pub replay_on-requires : goal.replay_on-requires
replay_on-requires c = record {
  in_job = subst (λ (w : Written). list_all (is_in (job_of w)) c.args.lines.now ≡ true) (sym (c.in-Ok.ensures ∙ c.in_ok-made.ensures.job)) c.requires.script.in_job;
}

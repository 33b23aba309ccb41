use Rattle.std.proofs.Common.{refl, inr}
use Rattle.xv_top.proofs.Driven.{fault-same}
use Rattle.xv_run.proofs.Left.{run-taken, run-begun, run-listed}
use Rattle.xv_run.proofs.program.run_out.Goals as goal

pub returns-in-Ok-write_run-clause-taken : goal.returns-in-Ok-write_run-clause-taken
returns-in-Ok-write_run-clause-taken g c = run-taken c.args.form c.args.job c.in-Ok.ran.0 c.in-Ok.ran.1.finish _ _ c.in-Ok.ensures.ended c.in-Ok-write_run.ensures.whole

pub returns-clause-cut : goal.returns-clause-cut
returns-clause-cut g c = λ _. run-begun c.args.form c.args.job c.in-Ok.ran.0 c.in-Ok.ran.1.finish _ _ c.in-Ok.ensures.ended c.write_run.ensures.front

pub returns-clause-memory : goal.returns-clause-memory
returns-clause-memory g c = λ there.
    let short = c.write_run.ensures.memory (fault-same c.write_run.result _ c.in-Err-write_run.error _ c.in-Err-write_run.is refl there) in
    inr (run-listed c.args.form c.args.job c.in-Ok.ran.0 c.in-Ok.ran.1.finish _ _ short.0 c.in-Ok.ensures.ended short.1)

pub returns-clause-fault : goal.returns-clause-fault
returns-clause-fault g c = λ there. c.write_run.ensures.fault (fault-same c.write_run.result _ c.in-Err-write_run.error _ c.in-Err-write_run.is refl there)

pub returns-clause-quiet : goal.returns-clause-quiet
returns-clause-quiet g c = λ not. c.write_run.ensures.quiet (λ there. not (fault-same _ c.write_run.result c.in-Err-write_run.error _ refl c.in-Err-write_run.is there))

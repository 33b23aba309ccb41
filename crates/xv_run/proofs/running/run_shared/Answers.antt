use Rattle.std.proofs.Common.{sym, subst}
use Rattle.xv_core.specs.Seen.{Seen}
use Rattle.xv_core.specs.Origin.{HasOrigin}
use Rattle.xv_core.proofs.Stepped.Origins.{origin-same}
use Rattle.xv_run.proofs.Ended.{has-run_out}
use Rattle.xv_run.proofs.running.run_shared.Goals as goal

pub new-requires-clause-came : goal.new-requires-clause-came
new-requires-clause-came g c κs within = subst (λ (s : Seen). HasOrigin s c.args.machine) (sym c.requires.named) (origin-same c.args.machine)

pub returns : goal.returns
returns g c =
    let closed = c.close-machine.result in
    let ends = c.finish-finish.ensures in
    let came = subst (λ (s : Seen). HasOrigin s closed) c.requires.named c.close-machine.ensures.came in
    record {
      ran = has-run_out c.args.machine closed c.finish-finish.new.migration c.finish-finish.result c.requires.begun came ends.job ends.origin ends.kept ends.finished ends.grew;
    }

use Rattle.std.specs.Prelude.{◌≡◌, ◌==◌, false, not, is_none}
use Rattle.std.proofs.Common.{ap, sym, ◌∙◌}
use Rattle.xv_job.specs.Written.{job_of}
use Rattle.xv_core.specs.Seen.{Seen}
use Rattle.xv_core.proofs.GuestEvents.ReleaseTurns.{disks-there}
use Rattle.xv_core.proofs.GuestEvents.OperationWaits.{allows-of, running-is, release-lets}
use Rattle.xv_core.proofs.migration.Migration.release_wait.Goals as goal

pub front-requires : goal.front-requires
front-requires g c = disks-there _ c.args.self.now c.args.disk c.self.invariant.0 c.self.view_is c.requires

pub returns-then-is_running : goal.returns-then-is_running
returns-then-is_running g c =
    let some : is_none c.front.result ≡ false = ap not (c.is_none.ensures ∙ ap not c.if-is_none.false) in
    let lets = release-lets _ c.args.self.now c.args.disk c.self.invariant.0 c.self.view_is (ap (λ w. is_none w) (sym c.front.ensures) ∙ some) (sym c.is_cancel_due.ensures ∙ c.if-is_cancel_due.false) in
    c.waits.ensures.exactly _ _ (allows-of _ c.args.self.now _ c.self.invariant.0 c.self.view_is lets)
    (running-is _ c.args.self.now _ c.self.invariant.0 c.self.view_is (sym c.is_running.ensures ∙ c.if-is_running.true)) (c.may_go_beside-beside.ensures ∙ ap (λ (m : Seen). (job_of m.job).format == 2) c.self.view_is)

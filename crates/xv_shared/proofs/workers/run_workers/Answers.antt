use Rattle.std.proofs.Common.{◌≡◌, ◌*◌, length, rules, arith}
use Rattle.xv_model.specs.Work.{bound}
use Rattle.xv_job.specs.Written.{job_of}
use Rattle.xv_shared.specs.Held.{by_kind}
use Rattle.xv_shared.proofs.Running.{all-stay, written-over}
use Rattle.xv_shared.proofs.workers.run_workers.Goals as goal

pub returns-then-not-is_empty-clause-all : goal.returns-then-not-is_empty-clause-all
returns-then-not-is_empty-clause-all g c =
    let old = c.args.crew.now.passes in
    let new = c.run_all.new.passes in
    let many : length new ≡ length old.items = search rules in
    let long : old.len ≡ length old.items = search rules in
    rw (written-over old.items new old.len long many) (all-stay (by_kind g.D.Ledger.parts g.Q.Ledger.parts g.F.Ledger.parts g.R.Ledger.parts) (4 * bound (job_of g.D.Named.origin.job)) old.items new c.requires (search rules))

use Rattle.std.proofs.Common.{◌≡◌, length, rules, arith}
use Rattle.xv_shared.specs.Held.{by_kind}
use Rattle.xv_shared.proofs.Running.{written-over}
use Rattle.xv_race_tests.proofs.Same.{all-stay}
use Rattle.xv_race_tests.proofs.racing.race.Goals as goal

pub returns : goal.returns
returns g c =
    let old = c.args.crew.now.passes in
    let new = c.race_all.new.passes in
    let many : length new ≡ length old.items = search rules in
    let long : old.len ≡ length old.items = search rules in
    rw (written-over old.items new old.len long many) (all-stay (by_kind g.D.Ledger.parts g.Q.Ledger.parts g.F.Ledger.parts g.R.Ledger.parts) old.items new c.requires (search rules))

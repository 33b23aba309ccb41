use Rattle.std.proofs.Common.{rules, ◌≡◌, ◌<◌, Some, ◌∙◌, sym, subst}
use Rattle.std.specs.Prelude.{position}
use Rattle.xv_base.specs.Units.{Shape, units}
use Rattle.xv_hold.specs.Messages.{is_next}
use Rattle.xv_engine_tests.proofs.Scans.{written-beside}
use Rattle.xv_engine_tests.proofs.hold_tests.scan.write.Goals as goal

pub index_mut-requires : goal.index_mut-requires
index_mut-requires c =
    let few : c.head-head.result.unit.0 < 4 = subst (λ (s : Shape). c.head-head.result.unit.0 < units s) c.requires.shape c.head-head.ensures.in_range in
    let each = c.requires.each in
    search rules

pub returns-in-Some-Some : goal.returns-in-Some-Some
returns-in-Some-Some c =
    let there : position (is_next c.args.scan.now.written.items) c.args.scan.now.held.items ≡ Some c.in-Some-Some.place = sym c.ready-2.ensures ∙ c.in-Some-Some.is-1 in
    rw (c.applied.ensures, c.remove.ensures.items)
    (written-beside c.args.hold.now c.args.scan.now.held.items c.args.scan.now.written.items c.in-Some-Some.place c.head-head.result c.requires there c.head-head.ensures.exactly)

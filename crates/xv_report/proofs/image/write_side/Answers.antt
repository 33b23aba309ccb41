use Rattle.std.proofs.Common.{◌≡◌, ◌<◌, List, ℕ, length, sym, ap, ◌∙◌, arith}
use Rattle.xv_base.specs.Units.{units}
use Rattle.xv_report.specs.Texts.{unit_line}
use Rattle.xv_io.proofs.Took.{at_text, took-text}
use Rattle.xv_report.proofs.Took.{line_of, range-front, range-took, side-front}
use Rattle.xv_report.proofs.image.write_side.Goals as goal

pub returns-in_err-write_unit-clause-front : goal.returns-in_err-write_unit-clause-front
returns-in_err-write_unit-clause-front g c =
    let e : c.units-unit-end.result ≡ length c.args.device.now.contents = c.units-unit-end.ensures.exactly ∙ ap units c.layout.ensures.exactly ∙ sym c.layout.ensures.sized.contents_each in
    let h : c.loop-unit.unit < length c.args.device.now.contents = omega arith in
    range-front (line_of c.args.side.now c.args.device.now.contents) _ _ _ c.loop-unit.unit (length c.args.device.now.contents) h c.loop-unit.invariant.0
    (at_text _ _ _ _ (ap (λ (bytes : List ℕ). unit_line c.args.side.now c.loop-unit.unit bytes) c.content.ensures.exactly) c.write_unit.ensures.front)

pub loop-unit-preserved : goal.loop-unit-preserved
loop-unit-preserved g c = (
  range-took (line_of c.args.side.now c.args.device.now.contents) _ _ _ c.loop-unit.unit c.loop-unit.invariant.0
      (took-text _ _ _ _ (ap (λ (bytes : List ℕ). unit_line c.args.side.now c.loop-unit.unit bytes) c.content.ensures.exactly) c.in_ok-write_unit.ensures.whole),
  c.in_ok-write_unit.ensures.quiet ∙ c.loop-unit.invariant.1,
)

pub returns-clause-front : goal.returns-clause-front
returns-clause-front g c =
    let e : c.units-unit-end.result ≡ length c.args.device.now.contents = c.units-unit-end.ensures.exactly ∙ ap units c.layout.ensures.exactly ∙ sym c.layout.ensures.sized.contents_each in
    side-front _ _ c.args.side.now c.args.device.now.contents c.loop-unit.unit (omega arith) c.loop-unit.invariant.0

use Rattle.std.proofs.Common.{◌++◌, ◌∷◌, [], sym, ◌∙◌, append_assoc}
use Rattle.xv_base.specs.Hex.{hex}
use Rattle.xv_io.proofs.Took.{front-first, front-then, front-last, took-both, at_text, took-text}
use Rattle.xv_report.proofs.Took.{line_parts}
use Rattle.xv_report.proofs.image.write_line.Goals as goal

pub returns-in_err-write_text-clause-front : goal.returns-in_err-write_text-clause-front
returns-in_err-write_text-clause-front g c =
    front-first _ _ _ (hex c.args.bytes.now ++ 10 ∷ []) _ (at_text _ _ _ _ (c.bytes.ensures.exactly ∙ c.unit_head.ensures) c.write_text.ensures.front) (line_parts c.args.side.now c.args.bytes.now c.args.unit)

pub returns-in_err-write_hex-clause-front : goal.returns-in_err-write_hex-clause-front
returns-in_err-write_hex-clause-front g c =
    front-then _ _ _ _ _ _ (took-text _ _ _ _ (c.bytes.ensures.exactly ∙ c.unit_head.ensures) c.in_ok-write_text.ensures.whole) c.write_hex.ensures.front (10 ∷ []) (line_parts c.args.side.now c.args.bytes.now c.args.unit)

pub returns-clause-front : goal.returns-clause-front
returns-clause-front g c =
    front-last _ _ _ _ _ _
    (took-both _ _ _ _ _ (took-text _ _ _ _ (c.bytes.ensures.exactly ∙ c.unit_head.ensures) c.in_ok-write_text.ensures.whole) c.in_ok-write_hex.ensures.whole)
    c.write_text-2.ensures.front
    (line_parts c.args.side.now c.args.bytes.now c.args.unit ∙ sym (append_assoc _ (hex c.args.bytes.now) (10 ∷ [])))

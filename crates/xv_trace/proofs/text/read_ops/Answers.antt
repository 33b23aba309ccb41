use Rattle.std.proofs.Common.{◌≡◌, ◌-◌, ◌^◌, ◌≤◌, min, [], ◌∷◌, length, None, ap, ◌∙◌, arith}
use Rattle.std.proofs.lemmas.List.{length-append}
use Rattle.xv_text.specs.Lines.{fields}
use Rattle.xv_trace.specs.Operations.{op_count, count_all}
use Rattle.xv_trace.specs.OpText.{Program, op_line_fault}
use Rattle.xv_trace.proofs.OpLines.{spelled_by}
use Rattle.xv_trace.proofs.Texts.{read_next}
use Rattle.xv_trace.proofs.text.read_ops.Goals as goal

pub loop-line-preserved : goal.loop-line-preserved
loop-line-preserved c =
    let ops = c.loop-line.trace.ops in
    let op = c.in-Ok.op in
    let rest = c.loop-line.rest.now in
    let limit = min c.args.room (2 ^ 20) in
    let left : c.min-limit.result - c.unit_ops.result ≡ limit - count_all ops = omega (arith, c.min-limit.ensures, c.unit_ops.ensures.exactly) in
    let no_fault : op_line_fault c.args.layout.now (limit - count_all ops) (fields c.in-Some.line.now) ≡ None = rw left at c.in-Ok.ensures.no_fault in
    let few : op_count op ≤ limit - count_all ops = omega (arith, c.in-Ok.ensures.room, left) in
    let pushed = c.in-Ok-push.ensures.ok in
    let read = read_next c.args.layout.now limit c.args.first_line c.args.lines.now ops rest c.in-Some.line.now c.in-Some.after.now op c.loop-line.invariant.read
    c.in-Some.ensures.cut c.in-Some.ensures.first c.in-Some.ensures.rest no_fault c.in-Ok.ensures.said (spelled_by _ _ _ op no_fault c.in-Ok.ensures.said) few in
    record {
      shape = ap (λ (p : Program). p.shape) pushed ∙ c.loop-line.invariant.shape;
      read = rw (ap (λ (p : Program). p.ops) pushed) read;
      number = omega (arith, c.saturating_add-number.ensures, c.loop-line.invariant.number, ap (λ (p : Program). length p.ops) pushed, length-append ops (op ∷ []));
    }

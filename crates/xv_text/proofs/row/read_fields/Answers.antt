use Rattle.std.proofs.Common.{refl, arith}
use Rattle.xv_text.proofs.Rows.{read_next, row_read, some_byte}
use Rattle.xv_text.proofs.row.read_fields.Goals as goal

pub loop-kind-preserved : goal.loop-kind-preserved
loop-kind-preserved c = read_next c.args.kinds.now c.args.args.now c.loop-kind.kind-index c.loop-kind.row c.loop-kind.fault c.loop-kind.rest _ c.in-Some.field.now c.in-Some.after c.add_after-fault.new.self c.add_after-fault.result
    c.loop-kind.invariant c.loop-kind-test.true c.in-Some.ensures.first (some_byte c.in-Some.field.now c.if-is_empty.ensures) c.add_after-fault.ensures.fault c.add_after-fault.ensures.added c.add_after-fault.ensures.few

pub returns-in-None-clause-row : goal.returns-in-None-clause-row
returns-in-None-clause-row c = row_read c.args.kinds.now c.args.args.now c.loop-kind.kind-index c.loop-kind.row c.loop-kind.fault c.loop-kind.rest
    c.loop-kind.invariant c.in-None.is (omega arith) (c.if-not-is_done.ensures.0 refl)

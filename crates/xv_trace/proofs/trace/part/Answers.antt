use Rattle.std.proofs.Common.{◌∙◌, sym, ap, get_or, ◌<◌, subst}
use Rattle.xv_trace.specs.Operations.{unit_operations, no_unit_op, op_count}
use Rattle.xv_trace.specs.declared.op.Op.{Op}
use Rattle.xv_trace.proofs.Counts.{block_write_at}
use Rattle.xv_trace.proofs.trace.part.Goals as goal

pub returns-in-Write : goal.returns-in-Write
returns-in-Write c =
    let within = subst (λ (op : Op). c.args.n < op_count op) c.in-Write.is c.requires.in_range in
    c.block_write.ensures
    ∙ sym (block_write_at c.args.layout.now c.in-Write.disk c.in-Write.block c.in-Write.count c.in-Write.pat c.args.n within)
    ∙ ap (λ (op : Op). get_or (unit_operations c.args.layout.now op) c.args.n no_unit_op) (sym c.in-Write.is)

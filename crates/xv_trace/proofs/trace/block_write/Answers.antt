use Rattle.std.proofs.Common.{◌+◌, arith}
use Rattle.xv_trace.proofs.trace.block_write.Goals as goal

pub overflow_add-block : goal.overflow_add-block
overflow_add-block c =
    let good = c.block_size-len.ensures.good in
    let blocks = c.units_number_blocks.ensures c.args.layout.now good in
    let limits = c.layouts_keep_limits.ensures c.args.layout.now good in
    omega (arith, blocks.unit_in c.args.disk (c.args.block + c.args.n) c.requires.disk_in c.requires.block_in, limits.few_units)

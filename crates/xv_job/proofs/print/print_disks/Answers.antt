use Rattle.std.proofs.Common.{◌∙◌, arith}
use Rattle.xv_job.proofs.Printed.{disk_written}
use Rattle.xv_job.proofs.print.print_disks.Goals as goal

pub loop-disk-preserved : goal.loop-disk-preserved
loop-disk-preserved c =
    c.in_ok-push_line.ensures.ok
    ∙ disk_written c.args.layout.now.disks c.loop-disk.disk c.blocks-in-loop-disk.result c.block_size.result c.loop-disk.out.items c.args.out.now.items (omega (arith, c.disks-disk-end.ensures.exactly)) c.blocks-in-loop-disk.ensures.exactly c.block_size.ensures.exactly c.loop-disk.invariant

use Rattle.std.specs.Prelude.{◌<◌, length}
use Rattle.std.proofs.Common.{ap, ◌∙◌, arith}
use Rattle.xv_region.specs.Copying.{fresh}
use Rattle.xv_source.proofs.FreshHalf.{copies-more}
use Rattle.xv_source.proofs.parts.copies.Goals as goal

pub loop-disk-preserved : goal.loop-disk-preserved
loop-disk-preserved c =
    let ds = c.args.layout.now.disks in
    let lt : c.loop-disk.disk < length ds = omega (arith, c.disks-disk-end.ensures.exactly) in
    c.in-Ok-push.ensures.items
    ∙ copies-more c.args.most ds c.loop-disk.disk c.loop-disk.disks.items _ lt c.loop-disk.invariant (c.in-Ok.ensures ∙ ap (fresh c.args.most) c.block_size.ensures.exactly) c.new-queue.ensures

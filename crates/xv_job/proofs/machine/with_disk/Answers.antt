use Rattle.std.proofs.Common.{◌∙◌, Some, ap, sym}
use Rattle.xv_base.specs.declared.text.LineWhy.{LineWhy}
use Rattle.xv_job.proofs.Shapes.{with_disk_is, disk_fits, disk_refused}
use Rattle.xv_job.proofs.machine.with_disk.Goals as goal

pub returns-in-Ok-clause-good : goal.returns-in-Ok-clause-good
returns-in-Ok-clause-good c =
    disk_fits c.args.layout.now c.args.disk c.in-Ok.layout (c.in-Ok.ensures.ok.0 ∙ with_disk_is c.args.layout.now c.args.disk c.pages.result c.page_size.result c.args.disks.now c.pages.ensures.exactly c.page_size.ensures.exactly c.requires.more) c.in-Ok.ensures.ok.1

pub returns-in-Err-clause-bad : goal.returns-in-Err-clause-bad
returns-in-Err-clause-bad c =
    disk_refused c.args.layout.now c.args.disk _ c.in-Err.fault (with_disk_is c.args.layout.now c.args.disk c.pages.result c.page_size.result c.args.disks.now c.pages.ensures.exactly c.page_size.ensures.exactly c.requires.more) c.requires.good c.in-Err.ensures.fault
    ∙ ap (λ (why : LineWhy). Some why) (sym c.limit_of.ensures)

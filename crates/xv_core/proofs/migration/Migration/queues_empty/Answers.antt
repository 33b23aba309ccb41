use Rattle.std.proofs.Common.{◌∙◌, length, sym, ap}
use Rattle.xv_base.specs.Units.{Shape}
use Rattle.xv_core.proofs.Totals.Issued.{few-in-all}
use Rattle.xv_core.proofs.migration.Migration.queues_empty.Goals as goal

pub are_empty-requires : goal.are_empty-requires
are_empty-requires g c = c.disks.ensures.exactly ∙ ap (λ (s : Shape). length s.disks) c.layout_of.ensures ∙ sym (few-in-all _ c.self.invariant.0.running).disks

use Rattle.xv_core.specs.Seen.{Seen}
use Rattle.xv_parts.specs.Memory.{IsInMemory}
use Rattle.xv_top.specs.Driven.{HasDriven, HasHandedOver}
use Rattle.xv_top.proofs.Driven.{made-hands-over, ok-both}
use Rattle.xv_top.proofs.driving.drive_number.Goals as goal

pub returns-clause-handed_over : goal.returns-clause-handed_over
returns-clause-handed_over c =
    let job = c.in_ok-job.job in
    ok-both c.drive_job.result (λ (m : Seen). HasDriven job m) (λ (m : Seen). IsInMemory m) (λ (m : Seen). HasHandedOver m)
    (λ m has inside. made-hands-over c.args.number job m c.in_ok-job.ensures.made has inside)
    c.drive_job.ensures.driven c.drive_job.ensures.in_memory

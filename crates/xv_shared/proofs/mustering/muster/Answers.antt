use Rattle.std.proofs.Common.{[], ◌∷◌}
use Rattle.xv_report.specs.declared.counts.Job1.TheVariants.{Copier, Pager, Sender, Receiver, Applier}
use Rattle.xv_model.specs.Job.{guest_count}
use Rattle.xv_job.specs.Written.{job_of}
use Rattle.xv_shared.specs.FirstCrew.{each_below, fresh_guest, fresh}
use Rattle.xv_shared.proofs.Mustered.{put-together, crew-of}
use Rattle.xv_shared.proofs.mustering.muster.Goals as goal

pub returns-clause-crew : goal.returns-clause-crew
returns-clause-crew g c =
    let job = job_of c.args.job.now in
    let disks = c.job_numbers-disks.result.2 in
    let streams = c.job_numbers-disks.result.3 in
    crew-of job disks streams c.push_worker-2.new.passes.items c.job_numbers-disks.ensures.disks_are c.job_numbers-disks.ensures.streams_are
    (put-together c.new-passes.result.items c.push_guests.new.passes.items c.push_copiers.new.passes.items c.push_worker.new.passes.items c.push_senders.new.passes.items c.push_receivers.new.passes.items c.push_worker-2.new.passes.items
    (each_below (guest_count job) (fresh_guest job)) (each_below disks (λ k. fresh (Copier k))) (fresh Pager ∷ []) (each_below streams (λ k. fresh (Sender k))) (each_below streams (λ k. fresh (Receiver k))) (fresh Applier ∷ [])
    c.new-passes.ensures.items c.in_ok-push_guests.ensures.passes c.in_ok-push_copiers.ensures.passes c.in_ok-push_worker.ensures.passes c.in_ok-push_senders.ensures.passes c.in_ok-push_receivers.ensures.passes c.in_ok-push_worker-2.ensures.passes)

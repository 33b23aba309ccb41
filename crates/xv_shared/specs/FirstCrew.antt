-- The passes of a job's workers at the start.
use Rattle.std.specs.Prelude.{◌≡◌, ℕ, zero, suc, ◌+◌, ◌*◌, List, [], ◌∷◌, ◌++◌, length}
use Rattle.xv_report.specs.declared.counts.Job1.{Job1}
use Rattle.xv_report.specs.declared.counts.Job1.TheVariants.{Copier, Pager, Sender, Receiver, Applier}
use Rattle.xv_model.specs.Job.{Job, guest_count, trace}
use Rattle.xv_model.specs.Work.{bound}
use Rattle.xv_shared.specs.Tallies.{GuestTally, WorkerTally}
use Rattle.xv_shared.specs.declared.passes.Pass.{Pass}
use Rattle.xv_shared.specs.declared.passes.Pass.TheVariants.{Guest, Other}

-- for each number below n, in rising order, a pass
abbrev pub each_below : {D Q F R : Type 0} → ℕ → (ℕ → Pass D Q F R) → List (Pass D Q F R)
each_below zero pass = []
each_below (suc n) pass = each_below n pass ++ pass n ∷ []

-- nothing has been called: of a guest all its operations are left
abbrev pub fresh_tally : Job → ℕ → GuestTally
fresh_tally job guest = record { guest = guest; calls = 0; done = 0; queued = 0; faulted = 0; left = length (trace job guest); read_at = 0; read_length = 0 }

abbrev pub fresh_guest : {D Q F R : Type 0} → Job → ℕ → Pass D Q F R
fresh_guest job guest = Guest (fresh_tally job guest)

abbrev pub fresh : {D Q F R : Type 0} → Job1 → Pass D Q F R
fresh worker = Other (record { worker = worker; calls = 0; steps = 0 })

-- in the order of the workers' numbers: each guest, a copier for each disk, the pager, a sender and a receiver for each
-- stream, and the applier
abbrev pub first_crew : {D Q F R : Type 0} → Job → List (Pass D Q F R)
first_crew job =
    each_below (guest_count job) (fresh_guest job)
    ++ (each_below (length job.copy.disks) (λ disk. fresh (Copier disk))
    ++ (fresh Pager ∷ []
    ++ (each_below job.config.streams (λ stream. fresh (Sender stream))
    ++ (each_below job.config.streams (λ stream. fresh (Receiver stream))
    ++ fresh Applier ∷ []))))

-- how many of them are no guests
abbrev pub other_count : Job → ℕ
other_count job = length job.copy.disks + 2 * job.config.streams + 2

-- numbers of a job: the bound of its journal, its guests, disks and streams
pub record AreOfJob (job : Job) (limit guests disks streams : ℕ) : Type 0 where
  pub limit_is : limit ≡ bound job
  pub guests_are : guests ≡ guest_count job
  pub disks_are : disks ≡ length job.copy.disks
  pub streams_are : streams ≡ job.config.streams

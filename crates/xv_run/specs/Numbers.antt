-- How many entries of a journal each worker made.
use Rattle.std.specs.Prelude.{◌≡◌, ℕ, List, [], ◌∷◌, ◌++◌, ◌+◌, ◌-◌, length, map, take, sum_by, count_by}
use Rattle.std.specs.List.{range_with_len}
use Rattle.xv_base.specs.declared.event.Event.{Event}
use Rattle.xv_base.specs.declared.event.Event.TheVariants.{Guest as GuestEvent, Begin, Read, Advance, Release, Round, Page, Send, Deliver, Apply, Ack, Credit, Stun, Switch, Cancel}
use Rattle.xv_base.specs.declared.answer.Entry.{Entry}
use Rattle.xv_model.specs.Job.{Job, guest_count}
use Rattle.xv_report.specs.declared.counts.Count.{Count}
use Rattle.xv_report.specs.declared.counts.Job1.{Job1}
use Rattle.xv_report.specs.declared.counts.Job1.TheVariants.{Guest, Copier, Pager, Sender, Receiver, Applier}
use Rattle.xv_report.specs.Workers.{Tally, is_worker}

-- the worker whose event it is
abbrev pub worker_of : Event → Job1
worker_of (GuestEvent g) = Guest g.0
worker_of (Begin d) = Copier d
worker_of (Read d) = Copier d
worker_of (Advance d) = Copier d
worker_of (Release d) = Copier d
worker_of Round = Pager
worker_of Page = Pager
worker_of (Send s) = Sender s
worker_of (Deliver s) = Receiver s
worker_of Apply = Applier
worker_of Ack = Applier
worker_of Credit = Pager
worker_of Stun = Pager
worker_of Switch = Pager
worker_of Cancel = Pager

-- how many entries are of a worker's events
abbrev pub steps_of : Job1 → List Entry → ℕ
steps_of worker journal = count_by (λ e. is_worker worker (worker_of e.event)) journal

abbrev pub counted : List Entry → Job1 → Count
counted journal worker = record { worker = worker; steps = steps_of worker journal }

-- the workers of a job: each guest, a copier for each disk, the pager, a sender and a receiver for each stream, and the applier
abbrev pub workers : Job → List Job1
workers job =
    map Guest (range_with_len 0 (guest_count job))
    ++ (map Copier (range_with_len 0 (length job.copy.disks))
    ++ (Pager ∷ []
    ++ (map Sender (range_with_len 0 job.config.streams)
    ++ (map Receiver (range_with_len 0 job.config.streams)
    ++ Applier ∷ []))))

-- the number of each over a journal whose last entries, so many, were made after them
abbrev pub tally : Job → List Entry → ℕ → Tally
tally job journal finish = record { workers = map (counted (take (length journal - finish) journal)) (workers job); finish = finish }

-- The workers' numbers and that of the entries made after them sum to the length of the journal. This is only a name.
unfoldable pub MadeAll : Tally → List Entry → Type 0
MadeAll counts journal = sum_by (λ c. c.steps) counts.workers + counts.finish ≡ length journal

-- The driver's list in its parts: the guests, then the copies of the disks, then the rest.
use Rattle.std.specs.Prelude.{◌≡◌, ℕ, ◌+◌, ◌*◌, List, [], ◌∷◌, ◌++◌, length}
use Rattle.xv_model.specs.Job.{Job, guest_count}
use Rattle.xv_model.specs.Wait.{Event}
use Rattle.xv_model.specs.Driver.{for_each_below}
use Rattle.xv_base.specs.declared.event.Event.TheVariants.{Begin, Read, Advance, Release, Round, Page, Send, Deliver, Apply, Ack, Credit, Stun, Switch, Cancel}

-- a disk's copy
abbrev pub copy_events : ℕ → List Event
copy_events disk = Begin disk ∷ Read disk ∷ Advance disk ∷ Release disk ∷ []

-- the rounds
abbrev pub round_events : List Event
round_events = Round ∷ Page ∷ []

-- the destination, and the ends
abbrev pub end_events : List Event
end_events = Apply ∷ Ack ∷ Credit ∷ Stun ∷ Switch ∷ Cancel ∷ []

-- the rounds, the streams, the destination and the ends
abbrev pub later_events : ℕ → List Event
later_events streams =
    round_events
    ++ for_each_below streams (λ s. Send s ∷ [])
    ++ for_each_below streams (λ s. Deliver s ∷ [])
    ++ end_events

-- a job has so many guests, disks and streams, and then so many events
pub record AreNumbersOf (job : Job) (guests disks streams : ℕ) : Type 0 where
  pub each_guest : guests ≡ guest_count job
  pub each_disk : disks ≡ length job.copy.disks
  pub each_stream : streams ≡ job.config.streams

abbrev pub event_total : ℕ → ℕ → ℕ → ℕ
event_total guests disks streams = guests + 4 * disks + 2 + 2 * streams + 6

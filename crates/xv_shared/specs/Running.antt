-- What workers try, and what is seen of their passes after they have run.
use Rattle.std.specs.Prelude.{◌≡◌, ◌≤◌, ◌<◌, ◌⊎◌, ℕ, ◌+◌, ◌-◌, ◌^◌, Bool, true, List, [], ◌∷◌, length, slice_index_or}
use Rattle.xv_base.specs.declared.event.Event.{Event}
use Rattle.xv_base.specs.declared.event.Event.TheVariants.{Guest as GuestEvent, Begin, Read, Advance, Release, Round, Page, Send, Deliver, Apply, Ack, Credit, Stun, Switch, Cancel}
use Rattle.xv_report.specs.declared.counts.Job1.{Job1}
use Rattle.xv_report.specs.declared.counts.Job1.TheVariants.{Guest, Copier, Pager, Sender, Receiver, Applier}
use Rattle.xv_shared.specs.declared.passes.Pass.{Pass}
use Rattle.xv_shared.specs.Crews.{worker, calls, left, is_guest}

-- the events of a worker, in turn
abbrev pub events : Job1 → List Event
events (Guest guest) = GuestEvent (record { 0 = guest }) ∷ []
events (Copier disk) = Begin disk ∷ Read disk ∷ Advance disk ∷ Release disk ∷ []
events Pager = Credit ∷ Round ∷ Page ∷ Stun ∷ Switch ∷ Cancel ∷ []
events (Sender stream) = Send stream ∷ []
events (Receiver stream) = Deliver stream ∷ []
events Applier = Apply ∷ Ack ∷ []

-- calls have grown by at most so many, and not fallen
pub record AreWithin (most before later : ℕ) : Type 0 where
  pub rises : before ≤ later
  pub within : later ≤ before + most

-- a guest's worker stopped: nothing was left, or its calls grew by just so many, or they stand at the last value of 64 bits
abbrev pub IsSpent : ℕ → ℕ → ℕ → ℕ → Type 0
IsSpent most before later left = (left ≡ 0) ⊎ ((later ≡ before + most) ⊎ (later ≡ 2 ^ 64 - 1))

-- A worker has run: its pass is of the same worker, its calls are within so many more, and a guest's is spent.
pub record HasRun {D Q F R : Type 0} (most : ℕ) (before later : Pass D Q F R) : Type 0 where
  pub kind : is_guest later ≡ is_guest before
  pub same : worker later ≡ worker before
  pub called : AreWithin most (calls before) (calls later)
  pub spent : is_guest before ≡ true → IsSpent most (calls before) (calls later) (left later)

-- all workers have run
pub record HaveRun {D Q F R : Type 0} (most : ℕ) (before later : List (Pass D Q F R)) : Type 0 where
  pub as_many : length later ≡ length before
  pub each : (k : ℕ) (d : Pass D Q F R) → k < length before → HasRun most (slice_index_or before k d) (slice_index_or later k d)

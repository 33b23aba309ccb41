-- What a journal tells by itself. Its entries are folded by their answers, and the machine is asked nothing: only each guest's
-- operations are looked up, for the disk that a queued write is of.
use Rattle.std.specs.Prelude.{ℕ, Bool, true, false, List, [], ◌∷◌, ◌++◌, length, map, drop, set, replicate, get_or, Option, Some, None}
use Rattle.xv_base.specs.declared.event.Event.{Event}
use Rattle.xv_base.specs.declared.event.Event.TheVariants.{Guest, Release, Apply, Stun, Switch}
use Rattle.xv_base.specs.declared.answer.Turn.{Turn}
use Rattle.xv_base.specs.declared.answer.Turn.TheVariants.{Done as Happened, Queued, Faulted as Broke}
use Rattle.xv_base.specs.declared.answer.Entry.{Entry}
use Rattle.xv_base.specs.declared.operation.Outcome.{Outcome}
use Rattle.xv_base.specs.declared.operation.Outcome.TheVariants.{Done, Faulted}
use Rattle.xv_model.specs.Job.{Job, unit_count, disk_of, operation}
use Rattle.xv_model.specs.Guest.{Ended, ended}

-- the operations that ended, in order; for each disk the guests whose writes wait; for each unit whether a message was
-- written to it; how many operations had ended when the guest was stopped; whether the destination has taken it over
pub record Story : Type 0 where
  pub history : List Ended
  pub queues : List (List ℕ)
  pub written : List Bool
  pub stun : Option ℕ
  pub switched : Bool

abbrev pub first_story : Job → Story
first_story job = record {
  history = [];
  queues = map (λ _. []) job.copy.disks;
  written = replicate (unit_count job) false;
  stun = None;
  switched = false;
}

abbrev pub queue : Story → ℕ → List ℕ
queue s d = get_or s.queues d []

abbrev pub was_written : Story → ℕ → Bool
was_written s unit = get_or s.written unit false

-- a guest's next operation ended
abbrev pub ends : Story → ℕ → Outcome → Story
ends s guest outcome = record s { history = s.history ++ record { guest = record { 0 = guest }; outcome = outcome } ∷ [] }

-- a guest's next operation waits for its disk, behind those that wait there
abbrev pub next_disk : Job → Story → ℕ → ℕ
next_disk job s guest = disk_of job.copy (operation job guest (ended s.history guest)).unit.0

abbrev pub joins : Story → ℕ → ℕ → Story
joins s guest d = record s { queues = set s.queues d (queue s d ++ guest ∷ []) }

-- the operation at the front of a disk's queue ended
abbrev pub front_ends : Story → ℕ → Outcome → Story
front_ends s d outcome = record (ends s (get_or (queue s d) 0 0) outcome) { queues = set s.queues d (drop 1 (queue s d)) }

-- what an event tells by its answer; that a message was written names its unit
abbrev pub told : Job → Story → Event → Turn → Story
told job s (Guest g) (Happened note) = ends s g.0 Done
told job s (Guest g) Broke = ends s g.0 Faulted
told job s (Guest g) Queued = joins s g.0 (next_disk job s g.0)
told job s (Release d) (Happened note) = front_ends s d Done
told job s (Release d) Broke = front_ends s d Faulted
told job s Apply (Happened note) = record s { written = set s.written note.a true }
told job s Stun (Happened note) = record s { stun = Some (length s.history) }
told job s Switch (Happened note) = record s { switched = true }
told job s event answer = s

-- the story that goes on over more entries, and that of a journal
abbrev pub story_on : Job → Story → List Entry → Story
story_on job s [] = s
story_on job s (e ∷ es) = story_on job (told job s e.event e.turn) es

abbrev pub story_of : Job → List Entry → Story
story_of job journal = story_on job (first_story job) journal

-- The workers of a migration, and how many entries of the journal each made.
use Rattle.std.specs.Prelude.{ℕ, ◌<◌, ◌==◌, Bool, true, false, List, ◌∷◌, ◌++◌, map, codes, decimal, Option, Some, None, option_map, IfSome}
use Rattle.std.specs.List.{AllByRecursion, IsDistinct}
use denote.Ref.{Bor}
use Rattle.xv_report.specs.declared.counts.Count.{Count}
use Rattle.xv_report.specs.declared.counts.Job1.{Job1}
use Rattle.xv_report.specs.declared.counts.Job1.TheVariants.{Guest, Copier, Pager, Sender, Receiver, Applier}

-- the number of entries of each worker, in the order of the workers, and of those made after them
pub record Tally : Type 0 where
  pub workers : List Count
  pub finish : ℕ

-- what kind of worker it is
abbrev pub worker_word : Job1 → List ℕ
worker_word (Guest guest) = codes "guest"
worker_word (Copier disk) = codes "copier"
worker_word Pager = codes "pager"
worker_word (Sender stream) = codes "sender"
worker_word (Receiver stream) = codes "receiver"
worker_word Applier = codes "applier"

-- which of its kind it is, where there are several
abbrev pub worker_number : Job1 → Option ℕ
worker_number (Guest guest) = Some guest
worker_number (Copier disk) = Some disk
worker_number Pager = None
worker_number (Sender stream) = Some stream
worker_number (Receiver stream) = Some stream
worker_number Applier = None

-- a word, and behind a space the number where there is one
abbrev pub numbered : List ℕ → Option ℕ → List ℕ
numbered word None = word
numbered word (Some n) = word ++ 32 ∷ decimal n

abbrev pub worker_name : Job1 → List ℕ
worker_name worker = numbered (worker_word worker) (worker_number worker)

-- whether two are one worker
abbrev pub is_worker : Job1 → Job1 → Bool
is_worker (Guest a) (Guest b) = a == b
is_worker (Copier a) (Copier b) = a == b
is_worker Pager Pager = true
is_worker (Sender a) (Sender b) = a == b
is_worker (Receiver a) (Receiver b) = a == b
is_worker Applier Applier = true
is_worker _ _ = false

-- no worker stands twice
abbrev pub AreDistinct : List Count → Type 0
AreDistinct counts = IsDistinct is_worker (map (λ c. c.worker) counts)

-- a worker's number is one of a byte
abbrev pub HasSmallNumber : Job1 → Type 0
HasSmallNumber worker = IfSome (worker_number worker) (λ n. n < 256)

abbrev pub HaveSmallNumbers : List Count → Type 0
HaveSmallNumbers counts = AllByRecursion (λ c. HasSmallNumber c.worker) counts

-- the counts, where there are any
abbrev pub tally_of : Option (Bor Tally) → Option Tally
tally_of counts = option_map (λ c. c.now) counts

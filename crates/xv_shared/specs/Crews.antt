-- What is seen of a crew: of each pass its worker and its numbers, and the sums over all.
use Rattle.std.specs.Prelude.{◌≡◌, ℕ, not, Bool, true, false, List, sum_by, count_by}
use Rattle.xv_report.specs.declared.counts.Job1.{Job1}
use Rattle.xv_report.specs.declared.counts.Job1.TheVariants.{Guest as GuestWorker}
use Rattle.xv_shared.specs.Tallies.{guest_number}
use Rattle.xv_shared.specs.Held.{ByKind, by_kind}
use Rattle.xv_shared.specs.declared.passes.Pass.{Pass}
use Rattle.xv_shared.specs.declared.passes.Pass.TheVariants.{Guest, Other}

-- its worker, the number of its calls, and the number of entries that they made
abbrev pub worker : {D Q F R : Type 0} → Pass D Q F R → Job1
worker (Guest p) = GuestWorker p.guest
worker (Other p) = p.worker

abbrev pub calls : {D Q F R : Type 0} → Pass D Q F R → ℕ
calls (Guest p) = p.calls
calls (Other p) = p.calls

abbrev pub number : {D Q F R : Type 0} → Pass D Q F R → ℕ
number (Guest p) = guest_number p
number (Other p) = p.steps

-- whether it is a guest's
abbrev pub is_guest : {D Q F R : Type 0} → Pass D Q F R → Bool
is_guest (Guest p) = true
is_guest (Other p) = false

-- how many operations have not begun: none of a worker that is no guest
abbrev pub left : {D Q F R : Type 0} → Pass D Q F R → ℕ
left (Guest p) = p.left
left (Other p) = 0

-- its entries by kind
abbrev pub done : {D Q F R : Type 0} → Pass D Q F R → ℕ
done (Guest p) = p.done
done (Other p) = 0

abbrev pub queued : {D Q F R : Type 0} → Pass D Q F R → ℕ
queued (Guest p) = p.queued
queued (Other p) = 0

abbrev pub faulted : {D Q F R : Type 0} → Pass D Q F R → ℕ
faulted (Guest p) = p.faulted
faulted (Other p) = 0

abbrev pub other : {D Q F R : Type 0} → Pass D Q F R → ℕ
other (Guest p) = 0
other (Other p) = p.steps

abbrev pub sums : {D Q F R : Type 0} → List (Pass D Q F R) → ByKind
sums passes = by_kind (sum_by done passes) (sum_by queued passes) (sum_by faulted passes) (sum_by other passes)

-- the passes are all that there are: as many of guests, and of others, as the ledgers have parts
pub record AreAll {D Q F R : Type 0} (parts : ByKind) (passes : List (Pass D Q F R)) : Type 0 where
  pub done : count_by is_guest passes ≡ parts.done
  pub queued : count_by is_guest passes ≡ parts.queued
  pub faulted : count_by is_guest passes ≡ parts.faulted
  pub other : count_by (λ p. not (is_guest p)) passes ≡ parts.other

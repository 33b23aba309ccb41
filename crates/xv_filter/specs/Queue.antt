-- A queue of writes that wait, as the list of them in order of joining.
use Rattle.std.specs.Prelude.{◌≡◌, ℕ, ◌<◌, ◌==◌, Bool, true, List, get_or, map, nat_eq}
use Rattle.std.specs.List.{IsDistinct, list_any}
use Rattle.xv_base.specs.declared.operation.Waiting.{Waiting}
use Rattle.xv_base.specs.declared.limits.TheConstants.{MOST_GUESTS}

-- whether a guest waits in it
abbrev pub waits_for : List Waiting → ℕ → Bool
waits_for queue guest = list_any (λ w. w.guest.0 == guest) queue

-- what stands in the place of a front that is not there
abbrev pub no_waiting : Waiting
no_waiting = record { guest = record { 0 = 0 }; unit = record { 0 = 0 } }

-- the first that joined
abbrev pub front : List Waiting → Waiting
front queue = get_or queue 0 no_waiting

-- the guests in it
abbrev pub guests : List Waiting → List ℕ
guests queue = map (λ w. w.guest.0) queue

-- no guest waits in it twice, and each is one of those that there may be
pub record IsQueue (queue : List Waiting) : Type 0 where
  pub distinct : IsDistinct nat_eq (guests queue)
  pub small : (guest : ℕ) → waits_for queue guest ≡ true → guest < MOST_GUESTS

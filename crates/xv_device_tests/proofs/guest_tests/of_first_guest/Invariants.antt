use Rattle.std.proofs.Common.{◌≡◌, ◌<◌, ℕ, length}
use Rattle.xv_guest.specs.Log.{ended}
use Rattle.xv_device_tests.proofs.guest_tests.of_first_guest.Given as goal

abbrev pub invariant-loop-outcome : goal.invariant-loop-outcome
invariant-loop-outcome l = (length l.history.entries ≡ l.outcome-index) × (l.history.room ≡ 4) × ((guest : ℕ) → 0 < guest → ended l.history.entries guest ≡ 0)

-- Each flagged entry has its fault counted at its object.
use Rattle.std.specs.Prelude.{◌≡◌, ◌≤◌, ℕ, ◌+◌, ◌-◌, ◌^◌, min}
use Rattle.std.proofs.Common.{arith}
use Rattle.xv_model.specs.Wait.{Event}
use Rattle.xv_model.specs.Effect.{Turn}
use Rattle.xv_core.specs.Seen.{wire}
use Rattle.xv_core.specs.State.{State, IsRunning, seen_of, on_back}
use Rattle.xv_core.specs.Happening.{Happened}
use Rattle.xv_core.specs.Counting.{FlagsAreCaused, is_of_source, is_of_dest, is_of_wire, is_of_back}
use Rattle.xv_core.proofs.Counting.Wires.{wire-caused}
use Rattle.xv_core.proofs.Counting.Journal.{failed-more}
use Rattle.xv_core.proofs.Counting.Fit.{at-source, at-dest, at-wire, at-back}

one-more : (most n k f g x : ℕ) → k ≡ n + x → min (f + x) most ≤ g → min n most ≤ f → min k most ≤ g
one-more most n k f g x more cause h = omega arith

pub flags-are-caused : (s t : State) (e : Event) (a : Turn) → IsRunning s → Happened s e a t → FlagsAreCaused (seen_of s) → FlagsAreCaused (seen_of t)
flags-are-caused s t e a running h caused = record {
  source = one-more (2 ^ 64 - 1) _ _ s.source.faults t.source.faults _ (failed-more s t e a h is_of_source) (at-source s t e a h).made.cause caused.source;
  dest = one-more (2 ^ 64 - 1) _ _ s.dest.faults t.dest.faults _ (failed-more s t e a h is_of_dest) (at-dest s t e a h).made.cause caused.dest;
  wires = λ k. one-more (2 ^ 64 - 1) _ _ (wire (seen_of s) k).faults (wire (seen_of t) k).faults _ (failed-more s t e a h (is_of_wire k)) (wire-caused _ _ _ _ (wire (seen_of s) k) (wire (seen_of t) k) (at-wire s t e a h k)).cause (caused.wires k);
  back = one-more (2 ^ 64 - 1) _ _ s.back.faults t.back.faults _ (failed-more s t e a h is_of_back) (wire-caused _ _ _ _ (on_back s.back) (on_back t.back) (at-back s t e a h)).cause caused.back;
}

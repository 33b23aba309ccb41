use Rattle.std.proofs.Common.{◌≡◌, ◌<◌, ◌≤◌, ℕ, get_or}
use Rattle.xv_source.specs.Kept.{no_copy}
use Rattle.xv_source.specs.Regions.{IsGivenUp}
use Rattle.xv_source.proofs.copying.give_up.Given as goal

abbrev pub invariant-loop-copy : goal.invariant-loop-copy
invariant-loop-copy l = record {
  gone : (k : ℕ) → k < l.copy-index → IsGivenUp (get_or l.initial.disks k no_copy) (get_or l.disks k no_copy);
  left : (k : ℕ) → l.copy-index ≤ k → get_or l.disks k no_copy ≡ get_or l.initial.disks k no_copy;
}

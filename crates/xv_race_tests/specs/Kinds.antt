-- Passes that stay of the same kind.
use Rattle.std.specs.Prelude.{◌≡◌, ℕ, ◌<◌, List, length, slice_index_or}
use Rattle.xv_shared.specs.declared.passes.Pass.{Pass}
use Rattle.xv_shared.specs.Crews.{is_guest}

-- as many passes, each of a guest exactly where the earlier one was
pub record AreOfSameKinds {D Q F R : Type 0} (before later : List (Pass D Q F R)) : Type 0 where
  pub as_many : length later ≡ length before
  pub each : (k : ℕ) (d : Pass D Q F R) → k < length before → is_guest (slice_index_or later k d) ≡ is_guest (slice_index_or before k d)

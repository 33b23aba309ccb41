-- What a crash inside a keeper's call leaves.
use Rattle.std.specs.Prelude.{◌≡◌, ◌⊎◌}

-- the value that was kept before the call, or the one that it was to keep: nothing else, whatever the call was to answer
abbrev pub CrashLeaves : {K : Type 0} → K → K → K → Type 0
CrashLeaves old value kept = (kept ≡ old) ⊎ (kept ≡ value)

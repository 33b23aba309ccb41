-- That a migration comes from one that it was before, by steps of which nothing else is said.
use Rattle.std.specs.Prelude.{◌≡◌, ℕ, List, ◌++◌}
use Rattle.xv_model.specs.Step.{Entry}
use Rattle.xv_core.specs.Seen.{Seen}
use Rattle.xv_core.specs.Rising.{Rises, TakesRise}
use Rattle.xv_core.specs.Stepped.{KeepsUnwritten, TellsOn}

-- the job is the same, the journal and the bytes read go on behind what they were, all that is counted rose by the journal's
-- calls, what is not written is as it was, and the devices tell on
pub record HasOrigin (start m : Seen) : Type 0 where
  pub since : List Entry
  pub journal : m.journal ≡ start.journal ++ since
  pub read : List ℕ
  pub reads : m.reads ≡ start.reads ++ read
  pub rises : Rises start m
  pub takes_rise : TakesRise start m
  pub unwritten : KeepsUnwritten start m
  pub tells : TellsOn start m

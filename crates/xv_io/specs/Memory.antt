-- What is seen of a source and a sink in memory: their bytes, and the plan by which their calls fail.
use Rattle.std.specs.Prelude.{ℕ, Bool, List}
use Rattle.xv_base.specs.Calls.{Planned}

-- the bytes left, the most that a call gives, and the calls
pub record SourceState : Type 0 where
  pub left : List ℕ
  pub piece : ℕ
  pub plan : Planned

-- the bytes taken, how many there is room for, the most that a call takes, whether bytes were taken since the
-- last flush that did not fail, and the calls, writes and flushes together
pub record SinkState : Type 0 where
  pub taken : List ℕ
  pub room : ℕ
  pub piece : ℕ
  pub keeps_back : Bool
  pub plan : Planned

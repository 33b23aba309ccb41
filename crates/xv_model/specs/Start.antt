-- Where an attempt begins: a first one with nothing done, a second one on what the first left.
use Rattle.std.specs.Prelude.{ℕ, Bool, false, List, [], Option}
use Rattle.xv_base.specs.declared.operation.Ended.{Ended}
use Rattle.xv_model.specs.Call.{Call}

-- whether it is a further attempt; the history that stands already; for each unit the beginning of the history that the
-- destination has of it, where it has one; the calls that were made before
pub record Start : Type 0 where
  pub again : Bool
  pub past : List Ended
  pub prior : List (Option ℕ)
  pub made : List Call

abbrev pub first_start : Start
first_start = record { again = false; past = []; prior = []; made = [] }

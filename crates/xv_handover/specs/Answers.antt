-- How a call of a node answers by its table.
use Rattle.std.specs.Prelude.{◌≡◌, ℕ, Bool, true, false, Option, None, Some, if◌then◌else◌}
use Rattle.xv_base.specs.Calls.{CountRose, next_count}
use Rattle.xv_handover.specs.declared.message.Message.{Message}
use Rattle.xv_handover.specs.declared.message.Reply.{Reply}
use Rattle.xv_handover.specs.declared.message.Reply.TheVariants.{Done, NotNow, Failed}
use Rattle.xv_handover.specs.Tables.{Move}

-- what is seen of a node: its side, how many calls of its keeper were made and how many failed, and whether its keeper is
-- steady
pub record Seen (S : Type 0) : Type 0 where
  pub side : S
  pub calls : ℕ
  pub faults : ℕ
  pub steady : Bool

module _ {S : Type 0} where
  -- the table has a move to this side, which sends this: the keeper was called once, where the move is to be kept, and did
  -- not fail
  pub record IsMade (move : Option (Move S)) (sends : Option Message) (old new : Seen S) : Type 0 where
    pub keeps : Bool
    pub is : move ≡ Some (record { after = new.side; keeps = keeps; sends = sends })
    pub calls : new.calls ≡ (if keeps then next_count old.calls else old.calls)
    pub faults : new.faults ≡ old.faults
    pub steady : new.steady ≡ old.steady

  -- the table has a move that is to be kept, and the one call of the keeper failed: nothing has changed but its counts
  pub record IsNotKept (move : Option (Move S)) (old new : Seen S) : Type 0 where
    pub wanted : Move S
    pub is : move ≡ Some wanted
    pub keeps : wanted.keeps ≡ true
    pub unsteady : old.steady ≡ false
    pub rose : CountRose old.faults new.faults
    pub same : new ≡ record old { calls = next_count old.calls; faults = new.faults }

  -- NotNow where the table has no move, Failed where the move could not be kept, and else the move is made
  abbrev pub Answers : Option (Move S) → Reply → Seen S → Seen S → Type 0
  Answers move (Done sends) old new = IsMade move sends old new
  Answers move NotNow old new = (move ≡ None) × (new ≡ old)
  Answers move Failed old new = IsNotKept move old new

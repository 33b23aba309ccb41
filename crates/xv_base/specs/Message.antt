-- A message: what stands of a unit at the version that it had when the message was made.
use Rattle.std.specs.Prelude.{ℕ, List, []}
use Rattle.xv_base.specs.declared.operation.UnitHead.{UnitHead}

-- of which unit, its version and when it was made, and the unit's content then
pub record Message : Type 0 where
  pub head : UnitHead
  pub content : List ℕ

abbrev pub message : UnitHead → List ℕ → Message
message h c = record { head = h; content = c }

-- what stands for a message that is not there
abbrev pub no_head : UnitHead
no_head = record { unit = record { 0 = 0 }; version = 0; at = 0 }

abbrev pub no_message : Message
no_message = message no_head []

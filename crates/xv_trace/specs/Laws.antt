-- What operations are to their lines, to their texts and to the units that they act on.
use Rattle.std.specs.Prelude.{◌≡◌, ◌≤◌, ◌<◌, ℕ, List, [], ◌∷◌, get_or, None}
use Rattle.xv_base.specs.Units.{Shape}
use Rattle.xv_trace.specs.declared.op.Op.{Op}
use Rattle.xv_trace.specs.Operations.{op_count, count_all, all_unit_operations, no_unit_op, IsWithinUnit}
use Rattle.xv_trace.specs.OpText.{op_fields, op_line_fault, op_said, ops_text, text_fault, text_said, IsGoodOp, Program, IsProgram}

-- the line of an operation has no fault, and says it
pub record IsReadBack (shape : Shape) (room : ℕ) (op : Op) : Type 0 where
  pub no_fault : op_line_fault shape room (op_fields op) ≡ None
  pub said : op_said (op_fields op) ≡ op ∷ []

-- a line says one operation, of which it is the line, which may act and for which there is room
pub record SaysOp (shape : Shape) (room : ℕ) (fields : List (List ℕ)) (op : Op) : Type 0 where
  pub said : op_said fields ≡ op ∷ []
  pub spelled : fields ≡ op_fields op
  pub good : IsGoodOp shape op
  pub few : op_count op ≤ room

-- the text of operations has no fault, and says them
pub record AreReadBack (room first : ℕ) (p : Program) : Type 0 where
  pub no_fault : text_fault p.shape room first (ops_text p.ops) ≡ None
  pub said : text_said (ops_text p.ops) ≡ p.ops

-- a text is the text of what it says, which is a program for which there is room
pub record SaysProgram (shape : Shape) (room : ℕ) (text : List ℕ) : Type 0 where
  pub spelled : text ≡ ops_text (text_said text)
  pub is_program : IsProgram (record { shape = shape; ops = text_said text })
  pub few : count_all (text_said text) ≤ room

-- each unit operation of a program acts within one unit
abbrev pub ActWithinUnits : Program → Type 0
ActWithinUnits p = (k : ℕ) → k < count_all p.ops → IsWithinUnit p.shape (get_or (all_unit_operations p.shape p.ops) k no_unit_op)

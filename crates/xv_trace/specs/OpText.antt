-- The text of operations, and how it is refused.
use Rattle.std.specs.Prelude.{◌≡◌, ◌≤◌, ◌<◌, ℕ, ◌+◌, ◌-◌, ◌^◌, nat_lt, Bool, List, [], ◌∷◌, length, get_or, codes, decimal, Option, Some, None, map, min, if◌then◌else◌}
use Rattle.std.specs.List.{flat_map}
use Rattle.xv_base.specs.declared.text.LineWhy.{LineWhy}
use Rattle.xv_base.specs.declared.text.LineWhy.TheVariants.{BadWord, TooMany, Unended}
use Rattle.xv_base.specs.declared.text.LineFault.{LineFault}
use Rattle.xv_base.specs.Layout.{IsGood}
use Rattle.xv_base.specs.Units.{Shape}
use Rattle.xv_base.specs.Hex.{hex}
use Rattle.xv_text.specs.declared.row.Kind.{Kind}
use Rattle.xv_text.specs.declared.row.Kind.TheVariants.{Number, Bytes}
use Rattle.xv_text.specs.Lines.{text_of, lines_of, has_rest}
use Rattle.xv_text.specs.Fields.{Values, values, number_at, fields_fault, or_else, fault_if, IsPattern}
use Rattle.xv_text.specs.Words.{is_spelled}
use Rattle.xv_text.specs.Reading.{at_line, at_line_or}
use Rattle.xv_trace.specs.declared.op.Op.{Op}
use Rattle.xv_trace.specs.Operations.{op_fault, op_count, count_all, no_op}
use Rattle.xv_trace.specs.declared.op.Op.TheVariants.{Store, Load, Write, Fetch}
use Rattle.xv_trace.specs.declared.op.Verb.{Verb}
use Rattle.xv_trace.specs.declared.op.Verb.TheVariants.{Store as StoreVerb, Load as LoadVerb, Write as WriteVerb, Fetch as FetchVerb}

-- the words of operations
abbrev pub verb_of : List ℕ → Option Verb
verb_of word =
    if is_spelled (codes "st") word then Some StoreVerb
    else (if is_spelled (codes "ld") word then Some LoadVerb
    else (if is_spelled (codes "wr") word then Some WriteVerb
    else (if is_spelled (codes "rd") word then Some FetchVerb
    else None)))

-- what follows each word, and the operation that it says
abbrev pub kinds_of : Verb → List Kind
kinds_of StoreVerb = Number ∷ Number ∷ Bytes ∷ []
kinds_of LoadVerb = Number ∷ Number ∷ []
kinds_of WriteVerb = Number ∷ Number ∷ Number ∷ Bytes ∷ []
kinds_of FetchVerb = Number ∷ Number ∷ Number ∷ Number ∷ []

abbrev pub op_of : Verb → Values → Op
op_of StoreVerb v = Store (number_at v 0) (number_at v 1) v.pattern
op_of LoadVerb v = Load (number_at v 0) (number_at v 1)
op_of WriteVerb v = Write (number_at v 0) (number_at v 1) (number_at v 2) v.pattern
op_of FetchVerb v = Fetch (number_at v 0) (number_at v 1) (number_at v 2) (number_at v 3)

-- an operation's line, as its fields
abbrev pub op_fields : Op → List (List ℕ)
op_fields (Store addr len pat) = codes "st" ∷ decimal addr ∷ decimal len ∷ hex pat ∷ []
op_fields (Load addr len) = codes "ld" ∷ decimal addr ∷ decimal len ∷ []
op_fields (Write disk block count pat) = codes "wr" ∷ decimal disk ∷ decimal block ∷ decimal count ∷ hex pat ∷ []
op_fields (Fetch disk block offset len) = codes "rd" ∷ decimal disk ∷ decimal block ∷ decimal offset ∷ decimal len ∷ []

abbrev pub ops_text : List Op → List ℕ
ops_text ops = text_of (map op_fields ops)

-- what is wrong with an operation's line, its word and what follows, where there is room for so many unit operations
abbrev pub verb_fault : Shape → ℕ → Verb → List (List ℕ) → Option LineWhy
verb_fault shape room verb args =
    or_else (fields_fault (kinds_of verb) args)
    (or_else (op_fault shape (op_of verb (values (kinds_of verb) args)))
    (fault_if (nat_lt room (op_count (op_of verb (values (kinds_of verb) args)))) TooMany))

abbrev pub verb_fault_or : Shape → ℕ → Option Verb → List (List ℕ) → Option LineWhy
verb_fault_or shape room None args = Some BadWord
verb_fault_or shape room (Some verb) args = verb_fault shape room verb args

abbrev pub head : List (List ℕ) → List ℕ
head fields = get_or fields 0 []

abbrev pub tail : List (List ℕ) → List (List ℕ)
tail [] = []
tail (f ∷ fs) = fs

abbrev pub op_line_fault : Shape → ℕ → List (List ℕ) → Option LineWhy
op_line_fault shape room fields = verb_fault_or shape room (verb_of (head fields)) (tail fields)

-- the operations that lines say
abbrev pub op_of_or_none : Option Verb → List (List ℕ) → List Op
op_of_or_none None args = []
op_of_or_none (Some verb) args = op_of verb (values (kinds_of verb) args) ∷ []

abbrev pub op_said : List (List ℕ) → List Op
op_said fields = op_of_or_none (verb_of (head fields)) (tail fields)

abbrev pub ops_said : List (List (List ℕ)) → List Op
ops_said lines = flat_map op_said lines

-- what is wrong with a text of operations alone, numbered on from n, where there is room for so many unit operations
abbrev pub ops_fault : Shape → ℕ → ℕ → List (List (List ℕ)) → Bool → Option LineFault
ops_fault shape room n [] rest = if rest then Some (at_line n Unended) else None
ops_fault shape room n (l ∷ ls) rest = at_line_or n (op_line_fault shape room l) (ops_fault shape (room - count_all (op_said l)) (n + 1) ls rest)

-- numbers and patterns that a line can say
abbrev pub CanBeSaid : Op → Type 0
CanBeSaid (Store addr len pat) = (addr < 2 ^ 32) × (len < 2 ^ 32) × IsPattern pat
CanBeSaid (Load addr len) = (addr < 2 ^ 32) × (len < 2 ^ 32)
CanBeSaid (Write disk block count pat) = (disk < 2 ^ 32) × (block < 2 ^ 32) × (count < 2 ^ 32) × IsPattern pat
CanBeSaid (Fetch disk block offset len) = (disk < 2 ^ 32) × (block < 2 ^ 32) × (offset < 2 ^ 32) × (len < 2 ^ 32)

-- an operation that a line can say and that may act on these units
pub record IsGoodOp (shape : Shape) (op : Op) : Type 0 where
  pub can_be_said : CanBeSaid op
  pub acts : op_fault shape op ≡ None

-- what a trace is: the units that it acts on, and its operations
pub record Program : Type 0 where
  pub shape : Shape
  pub ops : List Op

-- what every trace keeps
pub record IsProgram (p : Program) : Type 0 where
  pub machine : IsGood p.shape
  pub good : (i : ℕ) → i < length p.ops → IsGoodOp p.shape (get_or p.ops i no_op)
  pub few : count_all p.ops ≤ 2 ^ 20

-- what is wrong with a text of operations, its lines numbered on from `first`: there is room for as many unit operations
-- as a job may have, and the number of a line stands still at the greatest of 32 bits
abbrev pub capped : Option LineFault → Option LineFault
capped None = None
capped (Some fault) = Some (at_line (min fault.line (2 ^ 32 - 1)) fault.why)

abbrev pub text_fault : Shape → ℕ → ℕ → List ℕ → Option LineFault
text_fault shape room first text = capped (ops_fault shape (min room (2 ^ 20)) first (lines_of text) (has_rest text))

-- what a text of operations says
abbrev pub text_said : List ℕ → List Op
text_said text = ops_said (lines_of text)

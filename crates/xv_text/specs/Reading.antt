-- How a text of lines is refused: by its first faulty line.
use Rattle.std.specs.Prelude.{◌≡◌, ℕ, ◌+◌, ◌&&◌, Bool, List, [], ◌∷◌, Option, Some, None, Result, Ok, Err, if◌then◌else◌}
use Rattle.xv_base.specs.declared.text.LineWhy.{LineWhy}
use Rattle.xv_base.specs.declared.text.LineWhy.TheVariants.{Unended, Order}
use Rattle.xv_text.specs.declared.reading.Stop.{Stop}
use Rattle.xv_text.specs.declared.reading.Stop.TheVariants.{Refused, NoMemory as OutOfMemory}
use Rattle.xv_base.specs.declared.text.LineFault.{LineFault}
use Rattle.xv_base.specs.declared.text.TextError.{TextError}
use Rattle.xv_base.specs.declared.text.TextError.TheVariants.{Fault, NoMemory}

-- What reads lines, each given as its fields, in states: in which states the text is at its end, what is wrong with a
-- line, and the state after a line.
pub record Reader (S : Type 0) : Type 0 where
  pub is_ended : S → Bool
  pub fault : S → List (List ℕ) → Option LineWhy
  pub next : S → List (List ℕ) → S

abbrev pub at_line : ℕ → LineWhy → LineFault
at_line n why = record { line = n; why = why }

-- a fault at a line, or the first one later
abbrev pub at_line_or : ℕ → Option LineWhy → Option LineFault → Option LineFault
at_line_or n (Some why) later = Some (at_line n why)
at_line_or n None later = later

-- The first faulty line, numbered on from n. Bytes behind the end are a fault where the text ends the input; `rest`
-- says that bytes without a line feed follow these lines.
abbrev pub first_fault : {S : Type 0} → Reader S → Bool → S → ℕ → List (List (List ℕ)) → Bool → Option LineFault
first_fault r ends s n [] rest = if r.is_ended s then (if ends && rest then Some (at_line n Order) else None) else Some (at_line n Unended)
first_fault r ends s n (l ∷ ls) rest =
    if r.is_ended s then (if ends then Some (at_line n Order) else None)
    else at_line_or n (r.fault s l) (first_fault r ends (r.next s l) (n + 1) ls rest)

-- the state that a text without a fault ends in
abbrev pub last_state : {S : Type 0} → Reader S → S → List (List (List ℕ)) → S
last_state r s [] = s
last_state r s (l ∷ ls) = if r.is_ended s then s else last_state r (r.next s l) ls

-- how many lines are read: to the end of the text, or to the first that is refused
abbrev pub one_more_unless : Option LineWhy → ℕ → ℕ
one_more_unless None later = later + 1
one_more_unless (Some why) later = 0

abbrev pub line_count : {S : Type 0} → Reader S → S → List (List (List ℕ)) → ℕ
line_count r s [] = 0
line_count r s (l ∷ ls) = if r.is_ended s then 0 else one_more_unless (r.fault s l) (line_count r (r.next s l) ls)

-- why reading stops at a line: a fault that was found, or want of memory, which is free
abbrev pub Stops : Option LineWhy → Stop → Type 0
Stops fault (Refused why) = fault ≡ Some why
Stops fault OutOfMemory = Unit {0}

-- P of the fault of a text that is not read; want of memory is no fault of the text
abbrev pub IfFault : {A : Type 0} → Result A TextError → (LineFault → Type 0) → Type 0
IfFault (Ok found) P = Unit {0}
IfFault (Err NoMemory) P = Unit {0}
IfFault (Err (Fault fault)) P = P fault

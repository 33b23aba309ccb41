-- The text of a program says it, and a text without a fault is the text of a program.
use Rattle.std.proofs.Common.{◌≡◌, ℕ, zero, suc, ◌+◌, ◌-◌, ◌^◌, ◌<◌, ◌≤◌, min, Bool, true, false, List, [], ◌∷◌, ◌++◌, length, map, get_or, Option, Some, None, refl, sym, ap, ◌∙◌, arith, if◌then◌else◌, subst}
use Rattle.xv_base.specs.declared.text.LineWhy.{LineWhy}
use Rattle.xv_base.specs.declared.text.LineWhy.TheVariants.{Unended}
use Rattle.xv_base.specs.declared.text.LineFault.{LineFault}
use Rattle.xv_base.specs.Layout.{IsGood}
use Rattle.xv_base.specs.Units.{Shape}
use Rattle.xv_text.specs.Lines.{text_of, lines_of, has_rest}
use Rattle.xv_text.specs.Reading.{at_line, at_line_or}
use Rattle.xv_text.proofs.Apart.{ArePlainLines, lines_of-text_of, has_rest-text_of, text_of-lines_of}
use Rattle.xv_trace.specs.declared.op.Op.{Op}
use Rattle.xv_trace.specs.Operations.{op_count, count_all, no_op}
use Rattle.xv_trace.specs.OpText.{op_fields, op_line_fault, op_said, ops_said, ops_fault, ops_text, capped, text_fault, text_said, IsGoodOp, Program, IsProgram}
use Rattle.xv_trace.specs.Laws.{SaysOp, AreReadBack, SaysProgram}
use Rattle.xv_trace.proofs.Counts.{count_all-one, count_all-cons}
use Rattle.xv_trace.proofs.OpLines.{says_op, op_line_fault-op_fields, op_said-op_fields, op_fields_plain}
use Rattle.xv_trace.proofs.Texts.{next_fault}

-- each of some operations may act
abbrev pub AreGood : Shape → List Op → Type 0
AreGood shape [] = Unit {0}
AreGood shape (op ∷ ops) = IsGoodOp shape op × AreGood shape ops

pub good_from_index : (shape : Shape) (ops : List Op) → ((i : ℕ) → i < length ops → IsGoodOp shape (get_or ops i no_op)) → AreGood shape ops
good_from_index shape [] each = tt
good_from_index shape (op ∷ ops) each = (each 0 (omega arith), good_from_index shape ops (λ i h. each (suc i) (omega arith)))

pub good_at_index : (shape : Shape) (ops : List Op) → AreGood shape ops → (i : ℕ) → i < length ops → IsGoodOp shape (get_or ops i no_op)
good_at_index shape [] g i h = absurd (omega arith)
good_at_index shape (op ∷ ops) g zero h = g.0
good_at_index shape (op ∷ ops) g (suc i) h = good_at_index shape ops g.1 i (omega arith)

-- the lines of operations that may act
plain_lines : (shape : Shape) (ops : List Op) → AreGood shape ops → ArePlainLines (map op_fields ops)
plain_lines shape [] g = tt
plain_lines shape (op ∷ ops) g = (op_fields_plain op g.0.can_be_said, plain_lines shape ops g.1)

said_back : (shape : Shape) (ops : List Op) → AreGood shape ops → ops_said (map op_fields ops) ≡ ops
said_back shape [] g = refl
said_back shape (op ∷ ops) g =
    ap (λ xs. xs ++ ops_said (map op_fields ops)) (op_said-op_fields op g.0.can_be_said) ∙ ap (λ xs. op ∷ xs) (said_back shape ops g.1)

no_fault_back : (shape : Shape) (room n : ℕ) (ops : List Op) → AreGood shape ops → count_all ops ≤ room → ops_fault shape room n (map op_fields ops) false ≡ None
no_fault_back shape room n [] g few = refl
no_fault_back shape room n (op ∷ ops) g few =
    let first = count_all-cons op ops in
    next_fault shape room n (op_fields op) (map op_fields ops) false op (op_line_fault-op_fields shape room op g.0 (omega (arith, first))) (op_said-op_fields op g.0.can_be_said)
    ∙ no_fault_back shape (room - op_count op) (n + 1) ops g.1 (omega (arith, first))

pub program_back : (p : Program) (room first : ℕ) → IsProgram p → count_all p.ops ≤ room → AreReadBack room first p
program_back p room first is few =
    let good = good_from_index p.shape p.ops is.good in
    let lines : lines_of (ops_text p.ops) ≡ map op_fields p.ops = lines_of-text_of (map op_fields p.ops) (plain_lines p.shape p.ops good) in
    let rest : has_rest (ops_text p.ops) ≡ false = has_rest-text_of (map op_fields p.ops) in
    record {
      no_fault =
          ap capped (ap (λ ls. ops_fault p.shape (min room (2 ^ 20)) first ls (has_rest (ops_text p.ops))) lines
          ∙ ap (ops_fault p.shape (min room (2 ^ 20)) first (map op_fields p.ops)) rest
          ∙ no_fault_back p.shape (min room (2 ^ 20)) first p.ops good (omega (arith, is.few)));
      said = ap ops_said lines ∙ said_back p.shape p.ops good;
    }

-- lines without a fault
not_capped : (f : Option LineFault) → capped f ≡ None → f ≡ None
not_capped None h = refl
not_capped (Some f) h = absurd (cc)

no_line_fault : (n : ℕ) (f : Option LineWhy) (later : Option LineFault) → at_line_or n f later ≡ None → (f ≡ None) × (later ≡ None)
no_line_fault n None later h = (refl, h)
no_line_fault n (Some why) later h = absurd (cc)

no_rest : (n : ℕ) (rest : Bool) → (if rest then Some (at_line n Unended) else None) ≡ None → rest ≡ false
no_rest n true h = absurd (cc)
no_rest n false h = refl

pub record SayOps (shape : Shape) (room : ℕ) (lines : List (List (List ℕ))) (rest : Bool) : Type 0 where
  pub spelled : lines ≡ map op_fields (ops_said lines)
  pub good : AreGood shape (ops_said lines)
  pub few : count_all (ops_said lines) ≤ room
  pub no_rest : rest ≡ false

says_more : (shape : Shape) (room : ℕ) (l : List (List ℕ)) (ls : List (List (List ℕ))) (rest : Bool) (op : Op) → SaysOp shape room l op → SayOps shape (room - op_count op) ls rest → SayOps shape room (l ∷ ls) rest
says_more shape room l ls rest op s later =
    let said : ops_said (l ∷ ls) ≡ op ∷ ops_said ls = ap (λ xs. xs ++ ops_said ls) s.said in
    let P : List Op → Type 0 = λ ops. AreGood shape ops in
    record {
      spelled = ap (λ x. x ∷ ls) s.spelled ∙ ap (λ xs. op_fields op ∷ xs) later.spelled ∙ ap (map op_fields) (sym said);
      good = subst P (sym said) (s.good, later.good);
      few = omega (arith, ap count_all said, count_all-cons op (ops_said ls), s.few, later.few);
      no_rest = later.no_rest;
    }

say_ops : (shape : Shape) (room n : ℕ) (lines : List (List (List ℕ))) (rest : Bool) → ops_fault shape room n lines rest ≡ None → SayOps shape room lines rest
say_ops shape room n [] rest h = record { spelled = refl; good = tt; few = omega arith; no_rest = no_rest n rest h }
say_ops shape room n (l ∷ ls) rest h =
    let both = no_line_fault n (op_line_fault shape room l) (ops_fault shape (room - count_all (op_said l)) (n + 1) ls rest) h in
    let it = says_op shape room l both.0 in
    let fewer : ops_fault shape (room - op_count it.0) (n + 1) ls rest ≡ None =
    ap (λ c. ops_fault shape (room - c) (n + 1) ls rest) (sym (ap count_all it.1.said ∙ count_all-one it.0)) ∙ both.1 in
    says_more shape room l ls rest it.0 it.1 (say_ops shape (room - op_count it.0) (n + 1) ls rest fewer)

pub says_program : (shape : Shape) (room first : ℕ) (text : List ℕ) → IsGood shape → text_fault shape room first text ≡ None → SaysProgram shape room text
says_program shape room first text machine h =
    let s = say_ops shape (min room (2 ^ 20)) first (lines_of text) (has_rest text) (not_capped _ h) in
    record {
      spelled = sym (text_of-lines_of text s.no_rest) ∙ ap text_of s.spelled;
      is_program = record { machine = machine; good = good_at_index shape (text_said text) s.good; few = omega (arith, s.few) };
      few = omega (arith, s.few);
    }

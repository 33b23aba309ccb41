-- Texts of operations, line after line.
use Rattle.std.proofs.Common.{◌≡◌, ℕ, ◌+◌, ◌-◌, ◌≤◌, Bool, List, [], ◌∷◌, ◌++◌, length, map, None, sym, ap, ◌∙◌, arith, append_assoc}
use Rattle.std.proofs.lemmas.List.{append-nil, length-append, map-append}
use Rattle.xv_base.specs.Units.{Shape}
use Rattle.xv_text.specs.Lines.{fields, line, text_of, whole_lines, lines_of, has_rest}
use Rattle.xv_text.specs.Reading.{at_line_or}
use Rattle.xv_text.proofs.Apart.{line-fields, text_of-append}
use Rattle.xv_trace.specs.declared.op.Op.{Op}
use Rattle.xv_trace.specs.Operations.{op_count, count_all}
use Rattle.xv_trace.specs.OpText.{op_fields, op_line_fault, op_said, ops_said, ops_fault, ops_text, text_said}
use Rattle.xv_trace.proofs.Counts.{count_all-one, count_all-push}

-- a text is read up to its rest: its operations so far, and what is still to be found out
pub record IsReadTo (shape : Shape) (room first : ℕ) (lines : List ℕ) (ops : List Op) (rest : List ℕ) : Type 0 where
  pub text : lines ≡ ops_text ops ++ rest
  pub said : text_said lines ≡ ops ++ text_said rest
  pub fault : ops_fault shape room first (lines_of lines) (has_rest lines) ≡ ops_fault shape (room - count_all ops) (first + length ops) (lines_of rest) (has_rest rest)
  pub fits : count_all ops ≤ room

ops_text-push : (ops : List Op) (op : Op) → ops_text (ops ++ op ∷ []) ≡ ops_text ops ++ line (op_fields op)
ops_text-push ops op =
    ap text_of (map-append op_fields ops (op ∷ [])) ∙ text_of-append (map op_fields ops) (op_fields op ∷ [])
    ∙ ap (λ xs. ops_text ops ++ xs) (append-nil (line (op_fields op)))

-- a line without a fault leaves the rest of the text to be read
pub next_fault : (shape : Shape) (room n : ℕ) (l : List (List ℕ)) (ls : List (List (List ℕ))) (rest : Bool) (op : Op) → op_line_fault shape room l ≡ None → op_said l ≡ op ∷ []
    → ops_fault shape room n (l ∷ ls) rest ≡ ops_fault shape (room - op_count op) (n + 1) ls rest
next_fault shape room n l ls rest op h said =
    ap (λ f. at_line_or n f (ops_fault shape (room - count_all (op_said l)) (n + 1) ls rest)) h
    ∙ ap (λ c. ops_fault shape (room - c) (n + 1) ls rest) (ap count_all said ∙ count_all-one op)

pub read_next : (shape : Shape) (room first : ℕ) (lines : List ℕ) (ops : List Op) (rest here after : List ℕ) (op : Op) → IsReadTo shape room first lines ops rest
    → rest ≡ here ++ 10 ∷ after → whole_lines rest ≡ here ∷ whole_lines after → has_rest rest ≡ has_rest after
    → op_line_fault shape (room - count_all ops) (fields here) ≡ None → op_said (fields here) ≡ op ∷ [] → fields here ≡ op_fields op → op_count op ≤ room - count_all ops
    → IsReadTo shape room first lines (ops ++ op ∷ []) after
read_next shape room first lines ops rest here after op r cut first_line more h said spelled few =
    let its_line : line (op_fields op) ≡ here ++ 10 ∷ [] = ap line (sym spelled) ∙ line-fields here in
    let its_lines : lines_of rest ≡ fields here ∷ lines_of after = ap (map fields) first_line in
    let left : room - count_all ops - op_count op ≡ room - count_all (ops ++ op ∷ []) = omega (arith, count_all-push ops op) in
    let number : first + length ops + 1 ≡ first + length (ops ++ op ∷ []) = omega (arith, length-append ops (op ∷ [])) in
    record {
      text =
          r.text ∙ ap (λ xs. ops_text ops ++ xs) (cut ∙ sym (append_assoc here (10 ∷ []) after) ∙ ap (λ xs. xs ++ after) (sym its_line))
          ∙ sym (append_assoc (ops_text ops) (line (op_fields op)) after) ∙ ap (λ xs. xs ++ after) (sym (ops_text-push ops op));
      said =
          r.said ∙ ap (λ xs. ops ++ ops_said xs) its_lines ∙ ap (λ xs. ops ++ (xs ++ text_said after)) said
          ∙ sym (append_assoc ops (op ∷ []) (text_said after));
      fault =
          r.fault
          ∙ ap (λ ls. ops_fault shape (room - count_all ops) (first + length ops) ls (has_rest rest)) its_lines
          ∙ ap (ops_fault shape (room - count_all ops) (first + length ops) (fields here ∷ lines_of after)) more
          ∙ next_fault shape (room - count_all ops) (first + length ops) (fields here) (lines_of after) (has_rest after) op h said
          ∙ ap (λ c. ops_fault shape c (first + length ops + 1) (lines_of after) (has_rest after)) left
          ∙ ap (λ n. ops_fault shape (room - count_all (ops ++ op ∷ [])) n (lines_of after) (has_rest after)) number;
      fits = omega (arith, count_all-push ops op, r.fits);
    }

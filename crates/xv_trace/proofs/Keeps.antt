-- What a trace keeps when an operation is appended, and where a unit operation is found.
use Rattle.std.proofs.Common.{◌≡◌, ℕ, zero, suc, ◌+◌, ◌-◌, ◌^◌, ◌<◌, ◌≤◌, List, [], ◌∷◌, ◌++◌, length, take, get_or, refl, sym, ap, ◌∙◌, arith, inl, inr, subst}
use Rattle.std.proofs.lemmas.Bool.{cases_lt}
use Rattle.std.proofs.lemmas.List.{length-append, get_or_append_left, get_or-append_right, take_at, take_all, take-append-le}
use Rattle.xv_base.specs.Units.{Shape}
use Rattle.xv_trace.specs.declared.op.Op.{Op}
use Rattle.xv_trace.specs.Operations.{unit_operations, all_unit_operations, op_count, count_all, no_op, no_unit_op}
use Rattle.xv_trace.specs.OpText.{Program, IsGoodOp}
use Rattle.xv_trace.specs.Kept.{IsKept}
use Rattle.xv_trace.proofs.Counts.{count_all-push, unit_operation_at}

abbrev pub program : Shape → List Op → Program
program shape ops = record { shape = shape; ops = ops }

good_push : (shape : Shape) (ops : List Op) (op : Op) → ((i : ℕ) → i < length ops → IsGoodOp shape (get_or ops i no_op)) → IsGoodOp shape op
    → (i : ℕ) → i < length (ops ++ op ∷ []) → IsGoodOp shape (get_or (ops ++ op ∷ []) i no_op)
good_push shape ops op each good i h = elim (cases_lt i (length ops)) [
  | inl before ↦ subst (IsGoodOp shape) (sym (get_or_append_left ops (op ∷ []) no_op i before)) (each i before)
  | inr last ↦
      let none : i - length ops ≡ 0 = omega (arith, length-append ops (op ∷ [])) in
      let here : get_or (ops ++ op ∷ []) i no_op ≡ op = get_or-append_right ops (op ∷ []) (length ops) i no_op refl last ∙ ap (λ k. get_or (op ∷ []) k no_op) none in
      subst (IsGoodOp shape) (sym here) good
]

before_push : (ops : List Op) (op : Op) (firsts : List ℕ) (count : ℕ) → length firsts ≡ length ops → count ≡ count_all ops
    → ((i : ℕ) → i < length ops → get_or firsts i 0 ≡ count_all (take i ops))
    → (i : ℕ) → i < length (ops ++ op ∷ []) → get_or (firsts ++ count ∷ []) i 0 ≡ count_all (take i (ops ++ op ∷ []))
before_push ops op firsts count e n before i h = elim (cases_lt i (length ops)) [
  | inl there ↦
      let in' : i < length firsts = omega arith in
      let le : i ≤ length ops = omega arith in
      get_or_append_left firsts (count ∷ []) 0 i in' ∙ before i there ∙ ap count_all (sym (take-append-le i ops (op ∷ []) le))
  | inr last ↦
      let same : length ops ≡ i = omega (arith, length-append ops (op ∷ [])) in
      let none : i - length firsts ≡ 0 = omega (arith, length-append ops (op ∷ [])) in
      let le : length firsts ≤ i = omega arith in
      get_or-append_right firsts (count ∷ []) (length firsts) i 0 refl le ∙ ap (λ k. get_or (count ∷ []) k 0) none ∙ n
      ∙ ap count_all (sym (take_at ops (op ∷ []) i same))
]

pub kept_push : (shape : Shape) (ops : List Op) (op : Op) (firsts : List ℕ) (count : ℕ) → IsKept (program shape ops) firsts count
    → IsGoodOp shape op → count_all ops + op_count op ≤ 2 ^ 20 → IsKept (program shape (ops ++ op ∷ [])) (firsts ++ count ∷ []) (count + op_count op)
kept_push shape ops op firsts count k good room = record {
  is_program = record {
    machine = k.is_program.machine;
    good = good_push shape ops op k.is_program.good good;
    few = omega (arith, count_all-push ops op);
  };
  counted = omega (arith, k.counted, count_all-push ops op);
  each = omega (arith, k.each, length-append firsts (count ∷ []), length-append ops (op ∷ []));
  before = before_push ops op firsts count k.each k.counted k.before;
}

-- the operation that unit operation k falls in, and its number there
pub falls_in : (p : Program) (firsts : List ℕ) (count k i : ℕ) → IsKept p firsts count → k < count_all p.ops → i < length firsts → get_or firsts i 0 ≤ k
    → (i + 1 < length firsts → k < get_or firsts (i + 1) 0) → (k < count_all (take (i + 1) p.ops)) × (count_all (take i p.ops) ≤ k)
falls_in p firsts count k i kept h lt here next =
    let at : get_or firsts i 0 ≡ count_all (take i p.ops) = kept.before i (omega (arith, kept.each)) in (
      elim (cases_lt (i + 1) (length firsts)) [
        | inl more ↦ omega (arith, next more, kept.before (i + 1) (omega (arith, kept.each)))
        | inr last ↦ let all : take (i + 1) p.ops ≡ p.ops = take_all (i + 1) p.ops (omega (arith, kept.each)) in omega (arith, ap count_all all)
      ],
      omega (arith, at),
    )

-- the unit operation that is found
same_default : {A : Type 0} (xs : List A) (i : ℕ) (d e : A) → i < length xs → get_or xs i d ≡ get_or xs i e
same_default [] i d e h = absurd (omega arith)
same_default (x ∷ xs) zero d e h = refl
same_default (x ∷ xs) (suc i) d e h = same_default xs i d e (omega arith)

pub unit_op_found : (shape : Shape) (ops : List Op) (firsts seen : List ℕ) (count k i : ℕ) (op : Op) (first : ℕ) → IsKept (program shape ops) firsts count → k < count_all ops
    → seen ≡ firsts → i < length seen → get_or seen i 0 ≤ k → (i + 1 < length seen → k < get_or seen (i + 1) 0)
    → op ≡ get_or ops i op → first ≡ get_or firsts i first
    → get_or (unit_operations shape op) (k - first) no_unit_op ≡ get_or (all_unit_operations shape ops) k no_unit_op
unit_op_found shape ops firsts seen count k i op first kept lt same h here next op_is first_is =
    let P : List ℕ → Type 0 = λ xs. (i < length xs) × (get_or xs i 0 ≤ k) × (i + 1 < length xs → k < get_or xs (i + 1) 0) in
    let facts = subst P same (h, here, next) in
    let in' = falls_in (program shape ops) firsts count k i kept lt facts.0 facts.1 facts.2 in
    let there : i < length ops = omega (arith, facts.0, kept.each) in
    let start : first ≡ count_all (take i ops) = first_is ∙ same_default firsts i first 0 facts.0 ∙ kept.before i there in
    ap (λ (o : Op). get_or (unit_operations shape o) (k - first) no_unit_op) op_is
    ∙ ap (λ n. get_or (unit_operations shape (get_or ops i op)) (k - n) no_unit_op) start
    ∙ sym (unit_operation_at shape ops i k op there in'.1 in'.0)

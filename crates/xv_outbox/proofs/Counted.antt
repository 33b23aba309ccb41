-- How many messages of each unit there are, after one more and after the front was taken.
use Rattle.std.proofs.Common.{◌≡◌, ℕ, ◌+◌, ◌-◌, ◌^◌, ◌<◌, ◌≤◌, ◌==◌, cond, List, [], ◌∷◌, ◌++◌, length, get_or, set, drop, count_by, Some, sym, refl, ap, ◌∙◌, arith, inl, inr, subst, eq-eqb, ne_eqb}
use Rattle.std.specs.Prelude.{slice_get}
use Rattle.std.specs.List.{sum_by}
use Rattle.std.proofs.lemmas.List.{get_or-set_same, get_or-set_other, length-set}
use Rattle.std.proofs.lemmas.List.Sums.{sum_by-cons, sum_by_push, count_by-le-length}
use Rattle.std.proofs.lemmas.Bool.{cases_eq}
use Rattle.xv_base.specs.Units.{Shape, units}
use Rattle.xv_slots.specs.Row.{Row}
use Rattle.xv_outbox.specs.declared.outbox.Queued.{Queued}
use Rattle.xv_outbox.specs.Places.{message_of, messages_of, IsLaid, IsCounted}

-- one for an entry of a unit
abbrev of_unit : ℕ → Queued → ℕ
of_unit u q = cond (q.head.unit.0 == u) 1 0

-- the messages are counted as their entries are
pub count-messages : (s : Shape) (row : Row) (u : ℕ) (queue : List Queued) → count_by (λ m. m.head.unit.0 == u) (messages_of s row queue) ≡ count_by (λ q. q.head.unit.0 == u) queue
count-messages s row u [] = refl
count-messages s row u (q ∷ queue) =
    sum_by-cons (λ m. cond (m.head.unit.0 == u) 1 0) (message_of s row q) (messages_of s row queue)
    ∙ ap (λ n. of_unit u q + n) (count-messages s row u queue)
    ∙ sym (sum_by-cons (of_unit u) q queue)

pub count-fits : (s : Shape) (limit : ℕ) (queue : List Queued) (counts : List ℕ) → IsCounted s queue counts → limit < 2 ^ 32 → length queue < limit
    → (unit : ℕ) → get_or counts unit 0 + 1 < 2 ^ 32
count-fits s limit queue counts c small room unit = omega (arith, c.counted unit, count_by-le-length (λ q. q.head.unit.0 == unit) queue)

pub counted-made : (s : Shape) (queue : List Queued) (counts : List ℕ) → IsCounted s queue counts → (q : Queued) → q.head.unit.0 < units s
    → IsCounted s (queue ++ q ∷ []) (set counts q.head.unit.0 (get_or counts q.head.unit.0 0 + 1))
counted-made s queue counts c q in' = record {
  each = length-set counts q.head.unit.0 _ ∙ c.each;
  counted = λ u.
      let more = sum_by_push (of_unit u) queue q in
      let before : get_or counts u 0 ≡ sum_by (of_unit u) queue = c.counted u in
      elim (cases_eq u q.head.unit.0) [
        | inl own ↦
            let one : of_unit u q ≡ 1 = rw (eq-eqb q.head.unit.0 u (sym own)) refl in
            let now : get_or (set counts q.head.unit.0 (get_or counts q.head.unit.0 0 + 1)) u 0 ≡ get_or counts u 0 + 1 =
            ap (λ w. get_or (set counts q.head.unit.0 (get_or counts q.head.unit.0 0 + 1)) w 0) own
            ∙ get_or-set_same counts q.head.unit.0 _ 0 (omega (arith, c.each))
            ∙ ap (λ w. get_or counts w 0 + 1) (sym own) in
            omega arith
        | inr other ↦
            let none : of_unit u q ≡ 0 = rw (ne_eqb q.head.unit.0 u (λ e. other (sym e))) refl in
            let now : get_or (set counts q.head.unit.0 (get_or counts q.head.unit.0 0 + 1)) u 0 ≡ get_or counts u 0 = get_or-set_other counts q.head.unit.0 u _ 0 other in
            omega arith
      ];
}

-- the front is of a unit of the layout, and counted of it
pub front-unit : (s : Shape) (limit : ℕ) (queue : List Queued) (capacity : ℕ) (row : Row) (next : ℕ) (issued : List ℕ)
    → IsLaid s limit queue capacity row next issued → (q : Queued) → slice_get queue 0 ≡ Some q → q.head.unit.0 < units s
front-unit s limit [] capacity row next issued h q is = absurd cc
front-unit s limit (first ∷ rest) capacity row next issued h q is =
    let same : first ≡ q = cc in
    subst (λ (x : Queued). x.head.unit.0 < units s) same (h.units_in 0 (omega arith))

pub front-counted : (s : Shape) (queue : List Queued) (counts : List ℕ) → IsCounted s queue counts → (q : Queued) → slice_get queue 0 ≡ Some q → 1 ≤ get_or counts q.head.unit.0 0
front-counted s [] counts c q is = absurd cc
front-counted s (first ∷ rest) counts c q is =
    let same : first ≡ q = cc in
    let front = sum_by-cons (of_unit q.head.unit.0) first rest in
    let before : get_or counts q.head.unit.0 0 ≡ sum_by (of_unit q.head.unit.0) (first ∷ rest) = c.counted q.head.unit.0 in
    let one : of_unit q.head.unit.0 first ≡ 1 = rw (eq-eqb first.head.unit.0 q.head.unit.0 (ap (λ x. x.head.unit.0) same)) refl in
    omega arith

less : (s : Shape) (q : Queued) (rest : List Queued) (counts : List ℕ) → IsCounted s (q ∷ rest) counts → q.head.unit.0 < units s
    → IsCounted s rest (set counts q.head.unit.0 (get_or counts q.head.unit.0 0 - 1))
less s q rest counts c in' = record {
  each = length-set counts q.head.unit.0 _ ∙ c.each;
  counted = λ u.
      let front = sum_by-cons (of_unit u) q rest in
      let before : get_or counts u 0 ≡ sum_by (of_unit u) (q ∷ rest) = c.counted u in
      elim (cases_eq u q.head.unit.0) [
        | inl own ↦
            let one : of_unit u q ≡ 1 = rw (eq-eqb q.head.unit.0 u (sym own)) refl in
            let now : get_or (set counts q.head.unit.0 (get_or counts q.head.unit.0 0 - 1)) u 0 ≡ get_or counts u 0 - 1 =
            ap (λ w. get_or (set counts q.head.unit.0 (get_or counts q.head.unit.0 0 - 1)) w 0) own
            ∙ get_or-set_same counts q.head.unit.0 _ 0 (omega (arith, c.each))
            ∙ ap (λ w. get_or counts w 0 - 1) (sym own) in
            omega arith
        | inr other ↦
            let none : of_unit u q ≡ 0 = rw (ne_eqb q.head.unit.0 u (λ e. other (sym e))) refl in
            let now : get_or (set counts q.head.unit.0 (get_or counts q.head.unit.0 0 - 1)) u 0 ≡ get_or counts u 0 = get_or-set_other counts q.head.unit.0 u _ 0 other in
            omega arith
      ];
}

pub counted-taken : (s : Shape) (queue : List Queued) (counts : List ℕ) → IsCounted s queue counts → (q : Queued) → slice_get queue 0 ≡ Some q → q.head.unit.0 < units s
    → IsCounted s (drop 1 queue) (set counts q.head.unit.0 (get_or counts q.head.unit.0 0 - 1))
counted-taken s [] counts c q is in' = absurd cc
counted-taken s (first ∷ rest) counts c q is in' =
    let same : first ≡ q = cc in
    subst (λ (x : Queued). IsCounted s rest (set counts x.head.unit.0 (get_or counts x.head.unit.0 0 - 1))) same
    (less s first rest counts c (subst (λ (x : Queued). x.head.unit.0 < units s) (sym same) in'))

-- What is left of pieces as bytes are taken: it composes, and takes as many bytes from their total.
use Rattle.std.proofs.Common.{◌≡◌, ℕ, ◌+◌, ◌-◌, ◌*◌, ◌/◌, ◌<◌, ◌≤◌, List, [], ◌∷◌, ◌++◌, length, sym, ap, ◌∙◌, arith, refl, false, inl, inr}
use Rattle.std.specs.Prelude.{if◌then◌else◌, nat_lt}
use Rattle.std.proofs.lemmas.Bool.{lt-ltb, le-ltb, cases_lt}
use Rattle.xv_wire.specs.declared.wire.TheConstants.{LEAST_PUT}
use Rattle.xv_wire.specs.Wire.{left_past, is_inside}
use Rattle.xv_wire.specs.Lengths.{total, AreWide, IsPart}

pub left-within : (n p : ℕ) (ps : List ℕ) → n < p → left_past n (p ∷ ps) ≡ (p - n) ∷ ps
left-within n p ps h = ap (λ t. if t then (p - n) ∷ ps else left_past (n - p) ps) (lt-ltb n p h)

pub left-over : (n p : ℕ) (ps : List ℕ) → p ≤ n → left_past n (p ∷ ps) ≡ left_past (n - p) ps
left-over n p ps h = ap (λ t. if t then (p - n) ∷ ps else left_past (n - p) ps) (le-ltb n p h)

pub inside-within : (n p : ℕ) (ps : List ℕ) → n < p → is_inside n (p ∷ ps) ≡ nat_lt 0 n
inside-within n p ps h = ap (λ t. if t then nat_lt 0 n else is_inside (n - p) ps) (lt-ltb n p h)

pub inside-over : (n p : ℕ) (ps : List ℕ) → p ≤ n → is_inside n (p ∷ ps) ≡ is_inside (n - p) ps
inside-over n p ps h = ap (λ t. if t then nat_lt 0 n else is_inside (n - p) ps) (le-ltb n p h)

pub left-add : (a b : ℕ) (ps : List ℕ) → left_past (a + b) ps ≡ left_past b (left_past a ps)
left-add a b [] = refl
left-add a b (p ∷ ps) = elim (cases_lt a p) [
  | inl within ↦ elim (cases_lt (a + b) p) [
    | inl still ↦ left-within (a + b) p ps still ∙ (let e : p - (a + b) ≡ (p - a) - b = omega arith in ap (λ k. k ∷ ps) e)
        ∙ sym (ap (left_past b) (left-within a p ps within) ∙ left-within b (p - a) ps (omega arith))
    | inr past ↦ left-over (a + b) p ps past ∙ (let e : (a + b) - p ≡ b - (p - a) = omega arith in ap (λ k. left_past k ps) e)
        ∙ sym (ap (left_past b) (left-within a p ps within) ∙ left-over b (p - a) ps (omega arith))
  ]
  | inr over ↦ left-over (a + b) p ps (omega arith) ∙ (let e : (a + b) - p ≡ (a - p) + b = omega arith in ap (λ k. left_past k ps) e)
      ∙ left-add (a - p) b ps ∙ sym (ap (left_past b) (left-over a p ps over))
]

pub inside-add : (a b : ℕ) (ps : List ℕ) → 0 < b → is_inside (a + b) ps ≡ is_inside b (left_past a ps)
inside-add a b [] h = refl
inside-add a b (p ∷ ps) h = elim (cases_lt a p) [
  | inl within ↦ elim (cases_lt (a + b) p) [
    | inl still ↦ inside-within (a + b) p ps still ∙ lt-ltb 0 (a + b) (omega arith)
        ∙ sym (ap (is_inside b) (left-within a p ps within) ∙ inside-within b (p - a) ps (omega arith) ∙ lt-ltb 0 b h)
    | inr past ↦ inside-over (a + b) p ps past ∙ (let e : (a + b) - p ≡ b - (p - a) = omega arith in ap (λ k. is_inside k ps) e)
        ∙ sym (ap (is_inside b) (left-within a p ps within) ∙ inside-over b (p - a) ps (omega arith))
  ]
  | inr over ↦ inside-over (a + b) p ps (omega arith) ∙ (let e : (a + b) - p ≡ (a - p) + b = omega arith in ap (λ k. is_inside k ps) e)
      ∙ inside-add (a - p) b ps h ∙ sym (ap (is_inside b) (left-over a p ps over))
]

pub left-none : (ps : List ℕ) → AreWide ps → left_past 0 ps ≡ ps
left-none [] h = refl
left-none (p ∷ ps) h = left-within 0 p ps (omega (arith, h.0)) ∙ (let e : p - 0 ≡ p = omega arith in ap (λ k. k ∷ ps) e)

-- a part of the first piece
part-empty : (n : ℕ) → n ≡ 0 → 0 + n ≡ 0
part-empty n h = omega arith

pub part-left : (n : ℕ) (ps : List ℕ) → IsPart n ps → total (left_past n ps) + n ≡ total ps
part-left n [] h = part-empty n h
part-left n (p ∷ ps) h = ap (λ xs. total xs + n) (left-within n p ps h) ∙ omega arith

pub total-left : (n : ℕ) (ps : List ℕ) → n ≤ total ps → total (left_past n ps) + n ≡ total ps
total-left n [] h = omega arith
total-left n (p ∷ ps) h = elim (cases_lt n p) [
  | inl within ↦ ap (λ xs. total xs + n) (left-within n p ps within) ∙ omega arith
  | inr over ↦ ap (λ xs. total xs + n) (left-over n p ps over) ∙ omega (arith, total-left (n - p) ps (omega arith))
]

pub length-left : (n : ℕ) (ps : List ℕ) → length (left_past n ps) ≤ length ps
length-left n [] = omega arith
length-left n (p ∷ ps) = elim (cases_lt n p) [
  | inl within ↦ omega (arith, ap length (left-within n p ps within))
  | inr over ↦ omega (arith, ap length (left-over n p ps over), length-left (n - p) ps)
]

-- one piece more, while part of the first is taken
pub left-push : (n k : ℕ) (ps : List ℕ) → IsPart n ps → 0 < k → left_past n (ps ++ k ∷ []) ≡ left_past n ps ++ k ∷ []
left-push n k [] h w = ap (λ m. left_past m (k ∷ [])) h ∙ left-within 0 k [] w ∙ (let e : k - 0 ≡ k = omega arith in ap (λ j. j ∷ []) e)
left-push n k (p ∷ ps) h w = left-within n p (ps ++ k ∷ []) h ∙ ap (λ xs. xs ++ k ∷ []) (sym (left-within n p ps h))

pub wide-push : (ps : List ℕ) (k : ℕ) → AreWide ps → LEAST_PUT ≤ k → AreWide (ps ++ k ∷ [])
wide-push [] k h w = (w, tt)
wide-push (p ∷ ps) k h w = (h.0, wide-push ps k h.1 w)

pub part-push : (n : ℕ) (ps : List ℕ) (k : ℕ) → IsPart n ps → 0 < k → IsPart n (ps ++ k ∷ [])
part-push n [] k h w = omega arith
part-push n (p ∷ ps) k h w = h

pub total-push : (ps : List ℕ) (k : ℕ) → total (ps ++ k ∷ []) ≡ total ps + k
total-push [] k = omega arith
total-push (p ∷ ps) k = omega (arith, total-push ps k)

pub wide-total : (ps : List ℕ) → AreWide ps → LEAST_PUT * length ps ≤ total ps
wide-total [] h = omega arith
wide-total (p ∷ ps) h = omega (arith, wide-total ps h.1, h.0)

-- there is room for one piece more where there is room for its bytes
pub room-for-one : (n : ℕ) (ps : List ℕ) (most k : ℕ) → AreWide ps → IsPart n ps → total (left_past n ps) + k ≤ most → LEAST_PUT ≤ k → length ps < most / LEAST_PUT + 1
room-for-one n [] most k h part fits w = omega arith
room-for-one n (p ∷ ps) most k h part fits w =
    let left : total (left_past n (p ∷ ps)) ≡ (p - n) + total ps = ap total (left-within n p ps part) in
    omega (arith, left, wide-total ps h.1)

cons-is-some : (x : ℕ) (xs : List ℕ) → x ∷ xs ≡ [] → ⊥
cons-is-some x xs e = cc

pub inside-none : (n : ℕ) (ps : List ℕ) → left_past n ps ≡ [] → is_inside n ps ≡ false
inside-none n [] e = refl
inside-none n (p ∷ ps) e = elim (cases_lt n p) [
  | inl within ↦ absurd (cons-is-some (p - n) ps (sym (left-within n p ps within) ∙ e))
  | inr over ↦ inside-over n p ps over ∙ inside-none (n - p) ps (sym (left-over n p ps over) ∙ e)
]

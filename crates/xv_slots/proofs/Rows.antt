-- What is put into one slot of a row, and that the other slots stay.
use Rattle.std.proofs.Common.{◌≡◌, ◌≢◌, ℕ, ◌+◌, ◌-◌, ◌*◌, ◌<◌, ◌≤◌, List, [], ◌++◌, length, get_or, set, take, drop, replicate, sym, ap, ◌∙◌, arith, inl, inr, subst, rules}
use Rattle.std.proofs.Math.Nat.{mul-le-mul_right}
use Rattle.std.proofs.lemmas.List.{same_lists, places, take-take, drop-replicate, take-replicate, length-replicate, get_or-replicate, get_or-set_same, get_or-set_other, length-set}
use Rattle.std.proofs.lemmas.List.FromFn.{length-map-range_with_len, get_or-map-range_with_len}
use Rattle.std.proofs.lemmas.Bool.{cases_lt, cases_eq}
use Rattle.xv_slots.specs.Row.{content, row_of, empty, laid, put}

-- the bytes of one slot
abbrev cut : ℕ → List ℕ → ℕ → List ℕ
cut w b k = take w (drop (k * w) b)

-- slots lie one after another, and within the bytes of all
apart : (w j k : ℕ) → j < k → j * w + w ≤ k * w
apart w j k h = omega (arith, mul-le-mul_right {m = j + 1} {n = k} w (omega arith))

pub length-row : (w n : ℕ) (b : List ℕ) → length (row_of w n b).slots ≡ n
length-row w n b = length-map-range_with_len (cut w b) 0 n

pub at-row : (w n : ℕ) (b : List ℕ) (k : ℕ) (d : List ℕ) → k < n → get_or (row_of w n b).slots k d ≡ take w (drop (k * w) b)
at-row w n b k d h = get_or-map-range_with_len (cut w b) 0 n k k d h (omega arith)

-- bytes laid over the first of a slot
laid-same : (b o : List ℕ) (w at : ℕ) → length o ≤ w → at + w ≤ length b
    → take w (drop at (laid at o b)) ≡ o ++ drop (length o) (take w (drop at b))
laid-same b o w at h l = same_lists _ _ (search (rules, places)) (λ k d i. grind (arith, places))

laid-after : (b o : List ℕ) (p w at : ℕ) → p + w ≤ at → at + length o ≤ length b → take w (drop p (laid at o b)) ≡ take w (drop p b)
laid-after b o p w at h l = same_lists _ _ (search (rules, places)) (λ k d i. grind (arith, places))

laid-before : (b o : List ℕ) (p w at : ℕ) → at + length o ≤ p → p + w ≤ length b → take w (drop p (laid at o b)) ≡ take w (drop p b)
laid-before b o p w at h l = same_lists _ _ (search (rules, places)) (λ k d i. grind (arith, places))

-- a slot lies within the bytes of all
pub slot-fits : (w n k : ℕ) (b : List ℕ) → length b ≡ n * w → k < n → k * w + w ≤ length b
slot-fits w n k b l h = omega (arith, apart w k n h)

cut-other : (w n : ℕ) (b o : List ℕ) (j k : ℕ) → length b ≡ n * w → k < n → j < n → length o ≤ w → j ≢ k
    → cut w (laid (k * w) o b) j ≡ cut w b j
cut-other w n b o j k l hk hj f ne = elim (cases_lt j k) [
  | inl before ↦ laid-after b o (j * w) w (k * w) (apart w j k before) (omega (arith, slot-fits w n k b l hk))
  | inr after ↦ laid-before b o (j * w) w (k * w) (omega (arith, apart w k j (omega arith))) (slot-fits w n j b l hj)
]

-- all slots after bytes were laid over the first of one
pub row-laid : (w n : ℕ) (b o : List ℕ) (k : ℕ) → length b ≡ n * w → k < n → length o ≤ w
    → row_of w n (laid (k * w) o b) ≡ put (row_of w n b) k o
row-laid w n b o k l hk f = ap (λ s. record { width = w; slots = s }) (same_lists _ _
    (length-row w n _ ∙ sym (length-row w n b) ∙ sym (length-set (row_of w n b).slots k _))
    (λ j d i.
    let in' : j < n = omega (arith, length-row w n (laid (k * w) o b)) in
    let at = λ (c : List ℕ). at-row w n c j d in' in
    let filled : List ℕ = o ++ drop (length o) (content (row_of w n b) k) in
    elim (cases_eq j k) [
      | inl own ↦
          let P : ℕ → Type 0 = λ m. get_or (row_of w n (laid (k * w) o b)).slots m d ≡ get_or (set (row_of w n b).slots k filled) m d in
          subst P (sym own)
          (at-row w n (laid (k * w) o b) k d hk
          ∙ laid-same b o w (k * w) f (slot-fits w n k b l hk)
          ∙ ap (λ c. o ++ drop (length o) c) (sym (at-row w n b k [] hk))
          ∙ sym (get_or-set_same (row_of w n b).slots k filled d (omega (arith, length-row w n b))))
      | inr other ↦
          at (laid (k * w) o b)
          ∙ cut-other w n b o j k l hk in' f other
          ∙ sym (at b)
          ∙ sym (get_or-set_other (row_of w n b).slots k j filled d other)
    ]))

-- slots of zeros
pub row-zeros : (w n : ℕ) (b : List ℕ) → b ≡ replicate (n * w) 0 → row_of w n b ≡ empty n w
row-zeros w n b is =
    let zeros : (k : ℕ) → k < n → cut w (replicate (n * w) 0) k ≡ replicate w 0 = λ k h.
    ap (take w) (drop-replicate (k * w) (n * w) 0) ∙ take-replicate w (n * w - k * w) 0 (omega (arith, apart w k n h)) in
    ap (λ s. record { width = w; slots = s }) (same_lists _ _
    (length-row w n b ∙ sym (length-replicate n (replicate w 0)))
    (λ k d i.
    let in' : k < n = omega (arith, length-row w n b) in
    at-row w n b k d in' ∙ ap (λ c. cut w c k) is ∙ zeros k in' ∙ sym (get_or-replicate n k (replicate w 0) d in')))

-- the first bytes of a slot
pub part-row : (w n : ℕ) (b : List ℕ) (k m : ℕ) → k < n → m ≤ w → take m (drop (k * w) b) ≡ take m (content (row_of w n b) k)
part-row w n b k m h f = sym (ap (take m) (at-row w n b k [] h) ∙ take-take m w (drop (k * w) b) f)

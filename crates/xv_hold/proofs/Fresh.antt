-- A hold that nothing was put into keeps what each hold keeps.
use Rattle.std.proofs.Common.{◌≡◌, ℕ, zero, suc, ◌+◌, ◌^◌, ◌<◌, [], ◌∷◌, ◌++◌, length, map, get_or, replicate, Some, None, sym, refl, ap, ◌∙◌, arith, inl, inr, add-one}
use Rattle.std.specs.List.{range_with_len, sum_by}
use Rattle.std.proofs.lemmas.List.{length-replicate, get_or-replicate, get_or_past}
use Rattle.std.proofs.lemmas.List.FromFn.{length-range_with_len, get_or-range_with_len}
use Rattle.std.proofs.lemmas.List.Sums.{sum_by-cons}
use Rattle.std.proofs.lemmas.Bool.{cases_lt}
use Rattle.xv_base.specs.Units.{Shape, units, max_size}
use Rattle.xv_base.specs.Layout.{IsGood}
use Rattle.xv_slots.specs.Row.{empty}
use Rattle.xv_hold.specs.declared.hold.Held.{Held}
use Rattle.xv_hold.specs.Arrival.{in_slot}
use Rattle.xv_hold.specs.Chains.{link, LeadsAbove}
use Rattle.xv_hold.specs.Kept.{State, IsKept, ready_by}

-- a place of copies of what stands for nothing
get_or-copies : {X : Type 0} (n k : ℕ) (d : X) → get_or (replicate n d) k d ≡ d
get_or-copies n k d = elim (cases_lt k n) [
  | inl l ↦ get_or-replicate n k d d l
  | inr past ↦ get_or_past (replicate n d) k d (omega (arith, length-replicate n d))
]

map-copies : {X Y : Type 0} (f : X → Y) (n : ℕ) (x : X) → map f (replicate n x) ≡ replicate n (f x)
map-copies f zero x = refl
map-copies f (suc n) x = ap (λ ys. f x ∷ ys) (map-copies f n x)

sum-copies : {X : Type 0} (f : X → ℕ) (n : ℕ) (x : X) → f x ≡ 0 → sum_by f (replicate n x) ≡ 0
sum-copies f zero x z = refl
sum-copies f (suc n) x z = sum_by-cons f x (replicate n x) ∙ omega (arith, z, sum-copies f n x z)

abbrev pub fresh_state : Shape → ℕ → State
fresh_state s most = record {
  shape = s;
  limit = most;
  slots = replicate most None;
  links = replicate (most + units s) None;
  ends = replicate (units s) None;
  row = empty most (max_size s);
  ready = replicate most None;
  free = range_with_len 0 most;
  applied = replicate (units s) 0;
  recorded = replicate (units s) 0;
  counts = replicate (units s) 0;
  arrivals = 0;
}

nothing : (n k : ℕ) (h : Held) → in_slot (replicate n None) k ≡ Some h → ⊥
nothing n k h is = let none : in_slot (replicate n None) k ≡ None = get_or-copies n k None in cc

leads-nowhere : (n m i u b : ℕ) → LeadsAbove (replicate n None) u b (link (replicate m None) i)
leads-nowhere n m i u b = record {
  none = λ _ k h is. absurd (nothing n k h is);
  next = λ k is. let none : link (replicate m None) i ≡ None = get_or-copies m i None in absurd cc;
}

pub fresh-kept : (s : Shape) (most : ℕ) → IsGood s → most < 2 ^ 32 → IsKept (fresh_state s most)
fresh-kept s most good small = record {
  good = good;
  small = small;
  slot_each = length-replicate most None;
  link_each = length-replicate (most + units s) None;
  end_each = length-replicate (units s) None;
  row_each = length-replicate most (replicate (max_size s) 0);
  width = refl;
  applied_each = length-replicate (units s) 0;
  recorded_each = length-replicate (units s) 0;
  count_each = length-replicate (units s) 0;
  versions = λ u. omega (arith, get_or-copies {X = ℕ} (units s) u 0);
  held_in = λ k h is. absurd (nothing most k h is);
  arrived_once = λ k j h g is _ _. absurd (nothing most k h is);
  version_once = λ k j h g is _ _ _. absurd (nothing most k h is);
  chained = record {
    firsts = λ u _. leads-nowhere most (most + units s) (length (replicate most None) + u) u (get_or (replicate (units s) 0) u 0);
    nexts = λ k h is. absurd (nothing most k h is);
  };
  ended = λ u _. record {
    none = λ _. get_or-copies (most + units s) (length (replicate most None) + u) None;
    last = λ k is. let none : link (replicate (units s) None) u ≡ None = get_or-copies (units s) u None in absurd cc;
  };
  ready_are = sym (map-copies (ready_by (replicate (units s) 0)) most None);
  free_in = λ i l. omega (arith, length-range_with_len 0 most, get_or-range_with_len 0 most i 0 (omega (arith, length-range_with_len 0 most)));
  free_empty = λ i l. get_or-copies most (get_or (range_with_len 0 most) i 0) None;
  free_once = λ i j l m same.
      let at = get_or-range_with_len 0 most i 0 (omega (arith, length-range_with_len 0 most)) in
      let at' = get_or-range_with_len 0 most j 0 (omega (arith, length-range_with_len 0 most)) in
      omega (arith, at, at', same);
  others_held = omega (arith, length-range_with_len 0 most);
  arrivals_are = omega (arith, sum-copies (λ x. x) (units s) 0 refl);
  counted = λ u. get_or-copies (units s) u 0;
}

-- one number more in a row
range-suc : (a n : ℕ) → range_with_len a (suc n) ≡ range_with_len a n ++ (a + n) ∷ []
range-suc a zero = ap (λ m. m ∷ []) (omega arith)
range-suc a (suc n) = ap (λ xs. a ∷ xs) (range-suc (a + 1) n) ∙ ap (λ m. a ∷ (range_with_len (a + 1) n ++ m ∷ [])) (omega arith)

pub range-more : (a n : ℕ) → range_with_len a (n + 1) ≡ range_with_len a n ++ (a + n) ∷ []
range-more a n = rw (add-one n) (range-suc a n)

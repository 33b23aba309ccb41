-- A queue stays one as writes join and leave, and has room for each guest who does not wait in it.
use Rattle.std.proofs.Common.{◌≡◌, ℕ, ◌+◌, ◌<◌, ◌≤◌, ◌==◌, ◌||◌, Bool, true, false, nat_eq, List, [], ◌∷◌, ◌++◌, length, drop, refl, sym, ap, ◌∙◌, subst, arith, inl, inr, eq-eqb, ne_eqb, take, slice_set}
use Rattle.std.specs.List.{IsDistinct, list_any}
use Rattle.std.proofs.lemmas.Bool.{cases_eq, eqb-true, false≢true}
use Rattle.std.proofs.lemmas.List.{length_push, length-map, map-append, length-take-le, take_more_set}
use Rattle.std.proofs.lemmas.Cmp.{nat_eq_equiv}
use Rattle.std.proofs.lemmas.Map.Keys.{IsDistinct-push, IsDistinct-tail}
use Rattle.std.proofs.lemmas.Map.Steps.{length-le_from_distinct_below}
use Rattle.xv_base.specs.declared.operation.Waiting.{Waiting}
use Rattle.xv_filter.specs.Queue.{waits_for, guests, IsQueue}

eqb-flip : (a b : ℕ) → (a == b) ≡ (b == a)
eqb-flip a b = elim (cases_eq a b) [ inl same ↦ eq-eqb a b same ∙ sym (eq-eqb b a (sym same)) | inr other ↦ ne_eqb a b other ∙ sym (ne_eqb b a (λ same. other (sym same))) ]

or_assoc : (a b c : Bool) → (a || (b || c)) ≡ ((a || b) || c)
or_assoc true b c = refl
or_assoc false b c = refl

true-or : (a b : Bool) → b ≡ true → (a || b) ≡ true
true-or true b e = refl
true-or false b e = e

-- what one of two tests shows
small_if : (g : ℕ) (a b : Bool) → (a ≡ true → g < 16) → (b ≡ true → g < 16) → (a || b) ≡ true → g < 16
small_if g true b f h e = f refl
small_if g false b f h e = h e

-- a guest waits where its number is among the guests
waits_for-any : (ws : List Waiting) (g : ℕ) → waits_for ws g ≡ list_any (nat_eq g) (guests ws)
waits_for-any [] g = refl
waits_for-any (w ∷ ws) g = rw (eqb-flip w.guest.0 g, waits_for-any ws g) refl

-- who waits after a write has joined
waits_for-push : (ws : List Waiting) (w : Waiting) (g : ℕ) → waits_for (ws ++ w ∷ []) g ≡ (waits_for ws g || (w.guest.0 == g))
waits_for-push [] w g = grind arith
waits_for-push (v ∷ vs) w g = rw (waits_for-push vs w g) (or_assoc (v.guest.0 == g) (waits_for vs g) (w.guest.0 == g))

-- a guest who does not wait yet may join
pub joined : (ws : List Waiting) (w : Waiting) → IsQueue ws → w.guest.0 < 16 → waits_for ws w.guest.0 ≡ false → IsQueue (ws ++ w ∷ [])
joined ws w h small absent = record {
  distinct = rw (map-append (λ (v : Waiting). v.guest.0) ws (w ∷ [])) (IsDistinct-push nat_eq_equiv (guests ws) w.guest.0 h.distinct (sym (waits_for-any ws w.guest.0) ∙ absent));
  small = λ g waits. small_if g (waits_for ws g) (w.guest.0 == g) (λ e. h.small g e) (λ e. subst (λ (n : ℕ). n < 16) (eqb-true w.guest.0 g e) small) (sym (waits_for-push ws w g) ∙ waits);
}

-- the front may leave
pub left : (ws : List Waiting) → IsQueue ws → IsQueue (drop 1 ws)
left [] h = h
left (w ∷ ws) h = record {
  distinct = IsDistinct-tail nat_eq w.guest.0 (guests ws) h.distinct;
  small = λ g waits. h.small g (true-or (w.guest.0 == g) (waits_for ws g) waits);
}

pub none : IsQueue []
unfolding IsDistinct
none = record { distinct = tt; small = λ g e. absurd (false≢true e) }

-- no more than sixteen guests wait
few : (ws : List Waiting) → IsQueue ws → length ws ≤ 16
few ws h = omega (arith, length-le_from_distinct_below (guests ws) 16 h.distinct (λ q e. h.small q (waits_for-any ws q ∙ e)), length-map ws (λ w. w.guest.0))

-- so there is a place for each guest who does not wait
pub room : (ws : List Waiting) (w : Waiting) → IsQueue ws → w.guest.0 < 16 → waits_for ws w.guest.0 ≡ false → length ws < 16
room ws w h small absent = omega (arith, few (ws ++ w ∷ []) (joined ws w h small absent), length_push ws w)

-- what a join does to the places, of which the first `n` are the queue `now`
pub record Joins (places : List Waiting) (n : ℕ) (w : Waiting) (now : List Waiting) : Type 0 where
  pub has_room : n < 16
  pub one_more : take (n + 1) (slice_set places n w) ≡ now ++ w ∷ []
  pub still : IsQueue (take (n + 1) (slice_set places n w))

pub joins : (places : List Waiting) (n : ℕ) (w : Waiting) (now : List Waiting) → length places ≡ 16 → n ≤ 16 → IsQueue (take n places) → take n places ≡ now
    → w.guest.0 < 16 → waits_for now w.guest.0 ≡ false → Joins places n w now
joins places n w now all fits h is small absent =
    let same_guests : waits_for (take n places) w.guest.0 ≡ false = ap (λ (q : List Waiting). waits_for q w.guest.0) is ∙ absent in
    let below : n < 16 = omega (arith, room (take n places) w h small same_guests, length-take-le n places (omega arith)) in
    let same : take (n + 1) (slice_set places n w) ≡ take n places ++ w ∷ [] = take_more_set places n w (omega arith) in
    record {
      has_room = below;
      one_more = same ∙ ap (λ (q : List Waiting). q ++ w ∷ []) is;
      still = subst IsQueue (sym same) (joined (take n places) w h small same_guests);
    }

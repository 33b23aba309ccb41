-- The slots in order of arrival: where each stands, and what a message more or less makes of them.
use Rattle.std.proofs.Common.{◌≡◌, ◌≢◌, ℕ, zero, suc, ◌+◌, ◌-◌, ◌<◌, ◌⊎◌, true, false, List, [], ◌∷◌, ◌++◌, length, get_or, remove, Option, Some, None, sym, refl, ap, ◌∙◌, arith, inl, inr, ⊎_elim, subst, eqb-true, eq-eqb, ne_eqb, add-one}
use Rattle.std.specs.Option.{option_to_list}
use Rattle.std.specs.List.{position_or_len}
use Rattle.std.proofs.lemmas.List.{append-nil, length-append, get_or_append_left, get_or_push, length_push}
use Rattle.std.proofs.lemmas.List.Edits.{remove-append_left, remove-append_right}
use Rattle.std.proofs.lemmas.List.Quantifiers.{position-Some}
use Rattle.std.proofs.lemmas.List.Sums.{position_or_len_is}
use Rattle.std.proofs.lemmas.Bool.{cases_lt, cases_eq, lt-ltb, le-ltb}
use Rattle.xv_hold.specs.declared.hold.Held.{Held}
use Rattle.xv_hold.specs.Arrival.{in_slot, arrived_as, slot_of, in_order}
use Rattle.xv_hold.proofs.Walk.{held-within}

-- no two messages arrived as one number
abbrev pub ArrivedOnce : List (Option Held) → Type 0
ArrivedOnce slots = (k j : ℕ) (h g : Held) → in_slot slots k ≡ Some h → in_slot slots j ≡ Some g → h.arrival ≡ g.arrival → k ≡ j

-- the two cases of an option
pub none_or_some : {X : Type 0} (o : Option X) → (o ≡ None) ⊎ ((x : X) × (o ≡ Some x))
none_or_some None = inl refl
none_or_some (Some x) = inr (x, refl)

arrived-other : (o : Option Held) (n : ℕ) → ((h : Held) → o ≡ Some h → h.arrival ≢ n) → arrived_as n o ≡ false
arrived-other None n other = refl
arrived-other (Some h) n other = ne_eqb h.arrival n (other h refl)

arrived-one : (o : Option Held) (n : ℕ) → arrived_as n o ≡ true → (h : Held) × (o ≡ Some h) × (h.arrival ≡ n)
arrived-one None n is = absurd cc
arrived-one (Some h) n is = (h, refl, eqb-true h.arrival n is)

-- the slot of a number
pub slot-found : (slots : List (Option Held)) → ArrivedOnce slots → (n k : ℕ) (h : Held) → in_slot slots k ≡ Some h → h.arrival ≡ n → slot_of slots n ≡ Some k
slot-found slots once n k h is own =
    let within : k < length slots = held-within slots k h is in
    let first : position_or_len (arrived_as n) slots ≡ k =
    position_or_len_is (arrived_as n) slots k None (omega arith)
    (λ j l. arrived-other (in_slot slots j) n (λ g there same. let one : j ≡ k = once j k g h there is (same ∙ sym own) in omega arith))
    (λ _. ap (arrived_as n) is ∙ eq-eqb h.arrival n own) in
    rw (first, lt-ltb k (length slots) within) refl

pub slot-none : (slots : List (Option Held)) (n : ℕ) → ((k : ℕ) (h : Held) → in_slot slots k ≡ Some h → h.arrival ≢ n) → slot_of slots n ≡ None
slot-none slots n other =
    let all : position_or_len (arrived_as n) slots ≡ length slots =
    position_or_len_is (arrived_as n) slots (length slots) None (omega arith) (λ j l. arrived-other (in_slot slots j) n (other j)) (λ l. absurd (omega arith)) in
    rw (all, le-ltb (length slots) (length slots) (omega arith)) refl

pub slot-held : (slots : List (Option Held)) (n k : ℕ) → slot_of slots n ≡ Some k → (h : Held) × (in_slot slots k ≡ Some h) × (h.arrival ≡ n)
slot-held slots n k is = let at = position-Some (arrived_as n) slots k None is in arrived-one (in_slot slots k) n at.1

-- slots that agree on a number have it in the same place
pub slot-same : (slots others : List (Option Held)) (n : ℕ) → ArrivedOnce slots → ArrivedOnce others
    → ((k : ℕ) (h : Held) → in_slot slots k ≡ Some h → h.arrival ≡ n → in_slot others k ≡ Some h)
    → ((k : ℕ) (h : Held) → in_slot others k ≡ Some h → h.arrival ≡ n → in_slot slots k ≡ Some h)
    → slot_of others n ≡ slot_of slots n
slot-same slots others n once once' to back = ⊎_elim
    (λ none. slot-none others n (λ k h is own. let found : slot_of slots n ≡ Some k = slot-found slots once n k h (back k h is own) own in absurd cc) ∙ sym none)
    (λ some.
    let at = slot-held slots n some.0 some.1 in
    slot-found others once' n some.0 at.0 (to some.0 at.0 at.1 at.2) at.2 ∙ sym some.1)
    (none_or_some (slot_of slots n))

pub order-same : (slots others : List (Option Held)) (n : ℕ) → ((m : ℕ) → m < n → slot_of others m ≡ slot_of slots m) → in_order others n ≡ in_order slots n
order-same slots others zero same = refl
order-same slots others (suc n) same =
    let last : slot_of others n ≡ slot_of slots n = same n (omega arith) in
    let rest : in_order others n ≡ in_order slots n = order-same slots others n (λ m l. same m (omega arith)) in
    rw (last, rest) refl

-- a slot in the order holds a message, which stands behind those that arrived before it
pub record IsPlaced (slots : List (Option Held)) (n k slot : ℕ) : Type 0 where
  pub held : Held
  pub is_held : in_slot slots slot ≡ Some held
  pub before : held.arrival < n
  pub behind : length (in_order slots held.arrival) ≡ k

placed-more : (slots : List (Option Held)) (n k slot : ℕ) → IsPlaced slots n k slot → IsPlaced slots (suc n) k slot
placed-more slots n k slot p = record { held = p.held; is_held = p.is_held; before = omega (arith, p.before); behind = p.behind }

pub order-at : (slots : List (Option Held)) (n k d : ℕ) → k < length (in_order slots n) → IsPlaced slots n k (get_or (in_order slots n) k d)
order-at slots zero k d l = absurd (omega arith)
order-at slots (suc n) k d l = ⊎_elim
    (λ none.
    let same : in_order slots (suc n) ≡ in_order slots n = rw none (append-nil (in_order slots n)) in
    let l' : k < length (in_order slots n) = subst (λ xs. k < length xs) same l in
    subst (λ xs. IsPlaced slots (suc n) k (get_or xs k d)) (sym same) (placed-more slots n k _ (order-at slots n k d l')))
    (λ some.
    let same : in_order slots (suc n) ≡ in_order slots n ++ some.0 ∷ [] = rw some.1 refl in
    let l' : k < length (in_order slots n ++ some.0 ∷ []) = subst (λ xs. k < length xs) same l in
    subst (λ xs. IsPlaced slots (suc n) k (get_or xs k d)) (sym same)
    (elim (cases_lt k (length (in_order slots n))) [
      | inl old ↦ subst (IsPlaced slots (suc n) k) (sym (get_or_append_left (in_order slots n) (some.0 ∷ []) d k old)) (placed-more slots n k _ (order-at slots n k d old))
      | inr new ↦
          let last : length (in_order slots n) ≡ k = omega (arith, length_push (in_order slots n) some.0) in
          let at = slot-held slots n some.0 some.1 in
          subst (IsPlaced slots (suc n) k) (sym (get_or_push (in_order slots n) some.0 d k last))
          (record { held = at.0; is_held = at.1; before = omega (arith, at.2); behind = ap (λ m. length (in_order slots m)) at.2 ∙ last })
    ]))
    (none_or_some (slot_of slots n))

-- a slot that holds a message stands in the order behind those that arrived before it
pub order-place : (slots : List (Option Held)) → ArrivedOnce slots → (n slot : ℕ) (h : Held) (d : ℕ) → in_slot slots slot ≡ Some h → h.arrival < n
    → (length (in_order slots h.arrival) < length (in_order slots n)) × (get_or (in_order slots n) (length (in_order slots h.arrival)) d ≡ slot)
order-place slots once zero slot h d is l = absurd (omega arith)
order-place slots once (suc n) slot h d is l = elim (cases_eq h.arrival n) [
  | inl own ↦
      let same : in_order slots (suc n) ≡ in_order slots n ++ slot ∷ [] = rw (slot-found slots once n slot h is own) refl in
      let place : length (in_order slots n) ≡ length (in_order slots h.arrival) = ap (λ m. length (in_order slots m)) (sym own) in (
        omega (arith, ap length same, length_push (in_order slots n) slot),
        ap (λ xs. get_or xs (length (in_order slots h.arrival)) d) same ∙ get_or_push (in_order slots n) slot d (length (in_order slots h.arrival)) place,
      )
  | inr other ↦
      let before = order-place slots once n slot h d is (omega arith) in
      let more = option_to_list (slot_of slots n) in (
        omega (arith, before.0, length-append (in_order slots n) more),
        get_or_append_left (in_order slots n) more d (length (in_order slots h.arrival)) before.0 ∙ before.1,
      )
]

-- the order after one message more, which arrived last
pub order-more : (slots others : List (Option Held)) (n slot : ℕ) → ((m : ℕ) → m < n → slot_of others m ≡ slot_of slots m) → slot_of others n ≡ Some slot
    → in_order others (n + 1) ≡ in_order slots n ++ slot ∷ []
order-more slots others n slot same last = rw (add-one n, order-same slots others n same, last) refl

-- the order without one
pub order-less : (slots others : List (Option Held)) → ArrivedOnce slots → (a n slot : ℕ) → ((m : ℕ) → m ≢ a → slot_of others m ≡ slot_of slots m) → slot_of slots a ≡ Some slot → slot_of others a ≡ None
    → a < n → in_order others n ≡ remove (in_order slots n) (length (in_order slots a))
order-less slots others once a zero slot same there gone l = absurd (omega arith)
order-less slots others once a (suc n) slot same there gone l = elim (cases_eq a n) [
  | inl last ↦
      let whole : in_order slots (suc n) ≡ in_order slots n ++ slot ∷ [] = rw (← last, there) refl in
      let rest : in_order others (suc n) ≡ in_order slots n =
      rw (← last, gone, append-nil (in_order others a)) (order-same slots others a (λ m before. same m (λ e. omega arith))) in
      let none_left : length (in_order slots a) - length (in_order slots n) ≡ 0 = omega (arith, ap (λ m. length (in_order slots m)) last) in
      let cut : remove (in_order slots n ++ slot ∷ []) (length (in_order slots a)) ≡ in_order slots n =
      remove-append_right (in_order slots n) (slot ∷ []) (length (in_order slots n)) (length (in_order slots a)) refl (omega (arith, ap (λ m. length (in_order slots m)) last))
      ∙ ap (λ j. in_order slots n ++ remove (slot ∷ []) j) none_left ∙ append-nil (in_order slots n) in
      rest ∙ sym (ap (λ xs. remove xs (length (in_order slots a))) whole ∙ cut)
  | inr before ↦
      let more = option_to_list (slot_of slots n) in
      let at = slot-held slots a slot there in
      let early : at.0.arrival < n = omega (arith, at.2) in
      let within : length (in_order slots a) < length (in_order slots n) =
      subst (λ m. length (in_order slots m) < length (in_order slots n)) at.2 (order-place slots once n slot at.0 0 at.1 early).0 in
      let rest : in_order others n ≡ remove (in_order slots n) (length (in_order slots a)) = order-less slots others once a n slot same there gone (omega arith) in
      let last : slot_of others n ≡ slot_of slots n = same n (λ e. before (sym e)) in
      rw (rest, last) (sym (remove-append_left (in_order slots n) more (length (in_order slots a)) within))
]

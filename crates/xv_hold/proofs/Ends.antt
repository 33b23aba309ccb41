-- The last slot of each chain, after a message was put into its chain and after the first of a chain was taken out.
use Rattle.std.proofs.Common.{◌≡◌, ◌≢◌, ℕ, ◌+◌, ◌<◌, List, length, set, Option, Some, None, sym, refl, ap, ◌∙◌, arith, inl, inr, ⊎_elim, subst}
use Rattle.std.proofs.lemmas.List.{get_or-set_same, get_or-set_other}
use Rattle.std.proofs.lemmas.Bool.{cases_eq}
use Rattle.xv_hold.specs.declared.hold.Held.{Held}
use Rattle.xv_hold.specs.Arrival.{in_slot}
use Rattle.xv_hold.specs.Chains.{link, IsChained, IsLastBelow, IsEnd, end_with, end_without}
use Rattle.xv_hold.proofs.Walk.{held-within}
use Rattle.xv_hold.proofs.Linking.{IsPut, put-apart, put-keeps}
use Rattle.xv_hold.proofs.Chained.{IsUnwritten}

-- the unit's own link leads somewhere where a message of the unit is held
first-some : (slots : List (Option Held)) (links : List (Option ℕ)) (applied : List ℕ) → IsChained slots links applied → IsUnwritten slots applied
    → (k : ℕ) (h : Held) → in_slot slots k ≡ Some h → h.head.unit.0 < length applied → link links (length slots + h.head.unit.0) ≢ None
first-some slots links applied c free k h is in' none = absurd (omega (arith, (c.firsts h.head.unit.0 in').none none k h is refl, free.above k h is))

module _ (slots more : List (Option Held)) (slot : ℕ) (g : Held) (p : IsPut slots more slot g) (same_size : length more ≡ length slots)
    (links : List (Option ℕ)) (applied : List ℕ) (c : IsChained slots links applied) (size : length links ≡ length slots + length applied)
    (unit_in : g.head.unit.0 < length applied) (slot_in : slot < length slots) (free : IsUnwritten slots applied)
    (at : ℕ) (place : IsLastBelow slots links g.head.unit.0 g.head.version at) where
  abbrev linked : List (Option ℕ)
  linked = set (set links slot (link links at)) at (Some slot)

  apart : slot ≢ at
  apart same = ⊎_elim
      (λ own. omega arith)
      (λ held. put-apart slots more slot g p at held.0 held.1 (sym same))
      place.below

  link-own : link linked slot ≡ link links at
  link-own =
      get_or-set_other (set links slot (link links at)) at slot (Some slot) None apart
      ∙ get_or-set_same links slot (link links at) None (omega arith)

  link-other : (i : ℕ) → i ≢ at → i ≢ slot → link linked i ≡ link links i
  link-other i one two =
      get_or-set_other (set links slot (link links at)) at i (Some slot) None one
      ∙ get_or-set_other links slot i (link links at) None two

  -- the chain of another unit ends where it ended
  end-other : (unit : ℕ) (end : Option ℕ) → unit ≢ g.head.unit.0 → IsEnd slots links unit end → IsEnd more linked unit end
  end-other unit end other e = record {
    none = λ is.
        let where_is : length more + unit ≡ length slots + unit = omega arith in
        let elsewhere : length slots + unit ≢ at = λ same. ⊎_elim
        (λ own. other (omega arith))
        (λ held. let within = held-within slots at held.0 held.1 in omega arith)
        place.below in
        ap (link linked) where_is ∙ link-other (length slots + unit) elsewhere (λ same. omega arith) ∙ e.none is;
    last = λ k is.
        let l = e.last k is in
        let elsewhere : k ≢ at = λ same. ⊎_elim
        (λ own. let within = held-within slots k l.0 l.1 in omega arith)
        (λ held.
        let one : Some l.0 ≡ Some held.0 = sym l.1 ∙ ap (in_slot slots) same ∙ held.1 in
        let same_held : l.0 ≡ held.0 = cc in
        other (sym l.2 ∙ ap (λ x. x.head.unit.0) same_held ∙ held.2))
        place.below in
        (l.0, put-keeps slots more slot g p k l.0 l.1, l.2, link-other k elsewhere (put-apart slots more slot g p k l.0 l.1) ∙ l.3);
  }

  -- that of the message's unit at the message where no link leads on
  end-own : (end to : Option ℕ) → link links at ≡ to → IsEnd slots links g.head.unit.0 end → IsEnd more linked g.head.unit.0 (end_with slot to end)
  end-own end None is e = record {
    none = λ no. absurd cc;
    last = λ k own.
        let same : slot ≡ k = cc in
        (g, ap (in_slot more) (sym same) ∙ p.own, refl, ap (link linked) (sym same) ∙ link-own ∙ is);
  }
  end-own end (Some next) is e = record {
    none = λ no.
        let first : link links (length slots + g.head.unit.0) ≡ None = e.none no in
        ⊎_elim
        (λ own. let one : link links at ≡ None = ap (link links) own ∙ first in absurd cc)
        (λ held. absurd (first-some slots links applied c free at held.0 held.1 (omega (arith, held.2)) (ap (λ u. link links (length slots + u)) held.2 ∙ first)))
        place.below;
    last = λ k own.
        let l = e.last k own in
        let elsewhere : k ≢ at = λ same. (let one : Some next ≡ None = sym is ∙ ap (link links) (sym same) ∙ l.3 in absurd cc) in
        (l.0, put-keeps slots more slot g p k l.0 l.1, l.2, link-other k elsewhere (put-apart slots more slot g p k l.0 l.1) ∙ l.3);
  }

  pub ended-more : (ends : List (Option ℕ)) → length ends ≡ length applied → (u : ℕ) → IsEnd slots links u (link ends u)
      → IsEnd more linked u (link (set ends g.head.unit.0 (end_with slot (link links at) (link ends g.head.unit.0))) u)
  ended-more ends each u e = elim (cases_eq u g.head.unit.0) [
    | inl same ↦
        let new : Option ℕ = end_with slot (link links at) (link ends g.head.unit.0) in
        let now : link (set ends g.head.unit.0 new) g.head.unit.0 ≡ new = get_or-set_same ends g.head.unit.0 new None (omega arith) in
        let own : IsEnd more linked g.head.unit.0 (link (set ends g.head.unit.0 new) g.head.unit.0) =
        subst (IsEnd more linked g.head.unit.0) (sym now) (end-own (link ends g.head.unit.0) (link links at) refl (subst (λ w. IsEnd slots links w (link ends w)) same e)) in
        subst (λ w. IsEnd more linked w (link (set ends g.head.unit.0 new) w)) (sym same) own
    | inr other ↦
        let new : Option ℕ = end_with slot (link links at) (link ends g.head.unit.0) in
        subst (IsEnd more linked u) (sym (get_or-set_other ends g.head.unit.0 u new None other)) (end-other u (link ends u) other e)
  ]

module _ (slots less : List (Option Held)) (slot : ℕ) (g : Held) (p : IsPut less slots slot g) (same_size : length less ≡ length slots)
    (links : List (Option ℕ)) (applied : List ℕ) (c : IsChained slots links applied) (size : length links ≡ length slots + length applied)
    (unit_in : g.head.unit.0 < length applied) (free : IsUnwritten slots applied) where
  abbrev unlinked : List (Option ℕ)
  unlinked = set links (length slots + g.head.unit.0) (link links slot)

  unlink-other : (i : ℕ) → i ≢ length slots + g.head.unit.0 → link unlinked i ≡ link links i
  unlink-other i other = get_or-set_other links (length slots + g.head.unit.0) i (link links slot) None other

  -- a message in another slot is still the last
  stays : (k : ℕ) (h : Held) → in_slot slots k ≡ Some h → k ≢ slot → link links k ≡ None → (in_slot less k ≡ Some h) × (link unlinked k ≡ None)
  stays k h is elsewhere none =
      let within = held-within slots k h is in
      (sym (p.others k elsewhere) ∙ is, unlink-other k (λ same. omega arith) ∙ none)

  left-other : (unit : ℕ) (end : Option ℕ) → unit ≢ g.head.unit.0 → IsEnd slots links unit end → IsEnd less unlinked unit end
  left-other unit end other e = record {
    none = λ is.
        let where_is : length less + unit ≡ length slots + unit = omega arith in
        ap (link unlinked) where_is ∙ unlink-other (length slots + unit) (λ same. other (omega arith)) ∙ e.none is;
    last = λ k is.
        let l = e.last k is in
        let elsewhere : k ≢ slot = λ same.
        (let one : Some l.0 ≡ Some g = sym l.1 ∙ ap (in_slot slots) same ∙ p.own in
        let same_held : l.0 ≡ g = cc in
        other (sym l.2 ∙ ap (λ x. x.head.unit.0) same_held)) in
        let s = stays k l.0 l.1 elsewhere l.3 in
        (l.0, s.0, l.2, s.1);
  }

  left-own : (end to : Option ℕ) → link links slot ≡ to → IsEnd slots links g.head.unit.0 end → IsEnd less unlinked g.head.unit.0 (end_without to end)
  left-own end None is e = record {
    none = λ _.
        let where_is : length less + g.head.unit.0 ≡ length slots + g.head.unit.0 = omega arith in
        ap (link unlinked) where_is ∙ get_or-set_same links (length slots + g.head.unit.0) (link links slot) None (omega arith) ∙ is;
    last = λ k no. absurd cc;
  }
  left-own end (Some next) is e = record {
    none = λ no. absurd (first-some slots links applied c free slot g p.own unit_in (e.none no));
    last = λ k own.
        let l = e.last k own in
        let elsewhere : k ≢ slot = λ same. (let one : Some next ≡ None = sym is ∙ ap (link links) (sym same) ∙ l.3 in absurd cc) in
        let s = stays k l.0 l.1 elsewhere l.3 in
        (l.0, s.0, l.2, s.1);
  }

  pub ended-less : (ends : List (Option ℕ)) → length ends ≡ length applied → (u : ℕ) → IsEnd slots links u (link ends u)
      → IsEnd less unlinked u (link (set ends g.head.unit.0 (end_without (link links slot) (link ends g.head.unit.0))) u)
  ended-less ends each u e = elim (cases_eq u g.head.unit.0) [
    | inl same ↦
        let new : Option ℕ = end_without (link links slot) (link ends g.head.unit.0) in
        let now : link (set ends g.head.unit.0 new) g.head.unit.0 ≡ new = get_or-set_same ends g.head.unit.0 new None (omega arith) in
        let own : IsEnd less unlinked g.head.unit.0 (link (set ends g.head.unit.0 new) g.head.unit.0) =
        subst (IsEnd less unlinked g.head.unit.0) (sym now) (left-own (link ends g.head.unit.0) (link links slot) refl (subst (λ w. IsEnd slots links w (link ends w)) same e)) in
        subst (λ w. IsEnd less unlinked w (link (set ends g.head.unit.0 new) w)) (sym same) own
    | inr other ↦
        let new : Option ℕ = end_without (link links slot) (link ends g.head.unit.0) in
        subst (IsEnd less unlinked u) (sym (get_or-set_other ends g.head.unit.0 u new None other)) (left-other u (link ends u) other e)
  ]

-- All chains after a message was put into its chain, and after the first of a chain was taken out.
use Rattle.std.proofs.Common.{◌≡◌, ◌≢◌, ℕ, ◌+◌, ◌<◌, ◌≤◌, ◌⊎◌, List, length, get_or, set, Option, Some, None, sym, refl, ap, ◌∙◌, arith, inl, inr, ⊎_elim, subst}
use Rattle.std.proofs.lemmas.List.{get_or-set_same, get_or-set_other, length-set}
use Rattle.std.proofs.lemmas.Bool.{cases_eq}
use Rattle.xv_hold.specs.declared.hold.Held.{Held}
use Rattle.xv_hold.specs.Arrival.{in_slot}
use Rattle.xv_hold.specs.Chains.{link, LeadsAbove, IsChained, IsLastBelow, IsWalkable}
use Rattle.xv_hold.proofs.Walk.{held-within}
use Rattle.xv_hold.proofs.Linking.{IsPut, put-cases, put-apart, put-keeps, leads-other, leads-new, leads-on, leads-same, IsPlaceOf}

-- what holds of the messages in their slots: none is written, and no version is there twice
pub record IsUnwritten (slots : List (Option Held)) (applied : List ℕ) : Type 0 where
  pub above : (k : ℕ) (h : Held) → in_slot slots k ≡ Some h → get_or applied h.head.unit.0 0 < h.head.version
  pub once : (k j : ℕ) (h g : Held) → in_slot slots k ≡ Some h → in_slot slots j ≡ Some g → h.head.unit.0 ≡ g.head.unit.0 → h.head.version ≡ g.head.version → k ≡ j

-- chains can be walked along
pub walkable : (slots : List (Option Held)) (links : List (Option ℕ)) (applied : List ℕ) → IsChained slots links applied → length links ≡ length slots + length applied
    → (unit : ℕ) → unit < length applied → IsWalkable slots links unit
walkable slots links applied c size unit in' = record {
  within = omega arith;
  starts = λ k is. let n = (c.firsts unit in').next k is in (n.held, n.is_held, n.of_unit);
  goes_on = λ k j h is own to. let n = (c.nexts k h is).next j to in (n.held, n.is_held, n.of_unit ∙ own, n.above);
}

no-slot : (at k n unit : ℕ) → at ≡ n + unit → k < n → k ≢ at
no-slot at k n unit own within same = omega arith

module _ (slots more : List (Option Held)) (slot : ℕ) (g : Held) (p : IsPut slots more slot g) (same_size : length more ≡ length slots)
    (links : List (Option ℕ)) (applied : List ℕ) (c : IsChained slots links applied) (size : length links ≡ length slots + length applied)
    (unit_in : g.head.unit.0 < length applied) (slot_in : slot < length slots) (free : IsUnwritten slots applied) where
  -- where the link of the place stands
  abbrev IsAtPlace : ℕ → ℕ → Type 0
  IsAtPlace at bound =
      ((at ≡ length slots + g.head.unit.0) × (bound ≡ get_or applied g.head.unit.0 0))
      ⊎ ((h : Held) × (in_slot slots at ≡ Some h) × (h.head.unit.0 ≡ g.head.unit.0) × (h.head.version ≡ bound))

  -- the place that a walk has found
  found : (at : ℕ) → IsLastBelow slots links g.head.unit.0 g.head.version at → get_or applied g.head.unit.0 0 < g.head.version
      → ((k : ℕ) (h : Held) → in_slot slots k ≡ Some h → h.head.unit.0 ≡ g.head.unit.0 → h.head.version ≢ g.head.version)
      → (bound : ℕ) × IsPlaceOf slots links (get_or applied g.head.unit.0 0) g at bound × IsAtPlace at bound
  found at last unwritten new = ⊎_elim
      (λ own.
      let leads : LeadsAbove slots g.head.unit.0 (get_or applied g.head.unit.0 0) (link links at) = subst (λ i. LeadsAbove slots g.head.unit.0 (get_or applied g.head.unit.0 0) (link links i)) (sym own) (c.firsts g.head.unit.0 unit_in) in (
        get_or applied g.head.unit.0 0,
        record {
          leads = leads;
          below = unwritten;
          beyond = λ k h to is. let n = leads.next k to in let one : n.held ≡ h = (let e = n.is_held in cc) in
              let other = new k h is (ap (λ x. x.head.unit.0) (sym one) ∙ n.of_unit) in omega (arith, last.stops k h to is);
          held_at = λ l. absurd (omega arith);
        },
        inl (own, refl),
      ))
      (λ held.
      let leads : LeadsAbove slots g.head.unit.0 held.0.head.version (link links at) = subst (λ u. LeadsAbove slots u held.0.head.version (link links at)) held.2 (c.nexts at held.0 held.1) in (
        held.0.head.version,
        record {
          leads = leads;
          below = held.3;
          beyond = λ k h to is. let n = leads.next k to in let one : n.held ≡ h = (let e = n.is_held in cc) in
              let other = new k h is (ap (λ x. x.head.unit.0) (sym one) ∙ n.of_unit) in omega (arith, last.stops k h to is);
          held_at = λ _. (held.0, held.1, held.2, refl);
        },
        inr (held.0, held.1, held.2, refl),
      ))
      last.below

  -- The links after the message's was set, and that of its place.
  abbrev linked : ℕ → List (Option ℕ)
  linked at = set (set links slot (link links at)) at (Some slot)

  module _ (at bound : ℕ) (at_in : at < length links) (b : IsPlaceOf slots links (get_or applied g.head.unit.0 0) g at bound) (place : IsAtPlace at bound) where
    apart : slot ≢ at
    apart same = ⊎_elim
        (λ own. omega arith)
        (λ held. put-apart slots more slot g p at held.0 held.1 (sym same))
        place

    link-place : link (linked at) at ≡ Some slot
    link-place = get_or-set_same (set links slot (link links at)) at (Some slot) None (omega (arith, length-set links slot (link links at)))

    link-own : link (linked at) slot ≡ link links at
    link-own =
        get_or-set_other (set links slot (link links at)) at slot (Some slot) None apart
        ∙ get_or-set_same links slot (link links at) None (omega arith)

    link-other : (i : ℕ) → i ≢ at → i ≢ slot → link (linked at) i ≡ link links i
    link-other i one two =
        get_or-set_other (set links slot (link links at)) at i (Some slot) None one
        ∙ get_or-set_other links slot i (link links at) None two

    firsts-more : (u : ℕ) → u < length applied → LeadsAbove more u (get_or applied u 0) (link (linked at) (length more + u))
    firsts-more u in' =
        let where_is : length more + u ≡ length slots + u = omega arith in
        let there : LeadsAbove more u (get_or applied u 0) (link (linked at) (length slots + u)) = elim (cases_eq u g.head.unit.0) [
          | inl same ↦ ⊎_elim
              (λ own.
              let here : length slots + u ≡ at = omega arith in
              let to : link (linked at) (length slots + u) ≡ Some slot = ap (link (linked at)) here ∙ link-place in
              let new : LeadsAbove more g.head.unit.0 (get_or applied g.head.unit.0 0) (Some slot) = subst (λ n. LeadsAbove more g.head.unit.0 n (Some slot)) own.1 (leads-new slots more slot g p links (get_or applied g.head.unit.0 0) at bound b) in
              subst (λ o. LeadsAbove more u (get_or applied u 0) o) (sym to) (subst (λ w. LeadsAbove more w (get_or applied w 0) (Some slot)) (sym same) new))
              (λ held.
              let within : at < length slots = held-within slots at held.0 held.1 in
              let to : link (linked at) (length slots + u) ≡ link links (length slots + u) = link-other (length slots + u) (λ e. omega arith) (λ e. omega arith) in
              let old : LeadsAbove slots g.head.unit.0 (get_or applied g.head.unit.0 0) (link links (length slots + u)) = subst (λ w. LeadsAbove slots w (get_or applied w 0) (link links (length slots + u))) same (c.firsts u in') in
              let low : get_or applied g.head.unit.0 0 < bound = subst (λ w. get_or applied w 0 < bound) held.2 (omega (arith, free.above at held.0 held.1, held.3)) in
              let kept = leads-same slots more slot g p links (get_or applied g.head.unit.0 0) at bound b (get_or applied g.head.unit.0 0) (link links (length slots + u)) old (λ e. omega arith) (omega arith) (λ l. absurd (omega arith)) in
              subst (λ o. LeadsAbove more u (get_or applied u 0) o) (sym to) (subst (λ w. LeadsAbove more w (get_or applied w 0) (link links (length slots + u))) (sym same) kept))
              place
          | inr other ↦
              let to : link (linked at) (length slots + u) ≡ link links (length slots + u) = link-other (length slots + u)
              (λ e. ⊎_elim (λ own. other (omega arith)) (λ held. let within = held-within slots at held.0 held.1 in omega arith) place)
              (λ e. omega arith) in
              subst (λ o. LeadsAbove more u (get_or applied u 0) o) (sym to) (leads-other slots more slot g p u (get_or applied u 0) (link links (length slots + u)) (λ e. other (sym e)) (c.firsts u in'))
        ] in
        subst (λ i. LeadsAbove more u (get_or applied u 0) (link (linked at) i)) (sym where_is) there

    next-place : (k : ℕ) (h : Held) → in_slot slots k ≡ Some h → k ≡ at → LeadsAbove more h.head.unit.0 h.head.version (Some slot)
    next-place k h there here = ⊎_elim
        (λ own. absurd (no-slot at k (length slots) g.head.unit.0 own.0 (held-within slots k h there) here))
        (λ held.
        let one : held.0 ≡ h = (let e : Some held.0 ≡ Some h = sym held.1 ∙ ap (in_slot slots) (sym here) ∙ there in cc) in
        let unit : g.head.unit.0 ≡ h.head.unit.0 = sym held.2 ∙ ap (λ x. x.head.unit.0) one in
        let version : bound ≡ h.head.version = sym held.3 ∙ ap (λ x. x.head.version) one in
        subst (λ u. LeadsAbove more u h.head.version (Some slot)) unit
        (subst (λ n. LeadsAbove more g.head.unit.0 n (Some slot)) version (leads-new slots more slot g p links (get_or applied g.head.unit.0 0) at bound b)))
        place

    nexts-more : (k : ℕ) (h : Held) → in_slot more k ≡ Some h → LeadsAbove more h.head.unit.0 h.head.version (link (linked at) k)
    nexts-more k h is = ⊎_elim
        (λ new.
        let to : link (linked at) k ≡ link links at = ap (link (linked at)) new.0 ∙ link-own in
        subst (λ o. LeadsAbove more h.head.unit.0 h.head.version o) (sym to)
        (subst (λ x. LeadsAbove more x.head.unit.0 x.head.version (link links at)) (sym new.1) (leads-on slots more slot g p links (get_or applied g.head.unit.0 0) at bound b)))
        (λ old.
        let within : k < length slots = held-within slots k h old.1 in
        elim (cases_eq k at) [
          | inl here ↦
              let to : link (linked at) k ≡ Some slot = ap (link (linked at)) here ∙ link-place in
              subst (λ o. LeadsAbove more h.head.unit.0 h.head.version o) (sym to) (next-place k h old.1 here)
          | inr elsewhere ↦
              let to : link (linked at) k ≡ link links k = link-other k elsewhere old.0 in
              subst (λ o. LeadsAbove more h.head.unit.0 h.head.version o) (sym to)
              (elim (cases_eq h.head.unit.0 g.head.unit.0) [
                | inl same ↦
                    let leads : LeadsAbove slots g.head.unit.0 h.head.version (link links k) = subst (λ u. LeadsAbove slots u h.head.version (link links k)) same (c.nexts k h old.1) in
                    let above : get_or applied g.head.unit.0 0 < h.head.version = subst (λ u. get_or applied u 0 < h.head.version) same (free.above k h old.1) in
                    let other : h.head.version ≢ bound = λ e. ⊎_elim
                    (λ own. omega arith)
                    (λ held. elsewhere (free.once k at h held.0 old.1 held.1 (same ∙ sym held.2) (e ∙ sym held.3)))
                    place in
                    subst (λ u. LeadsAbove more u h.head.version (link links k)) (sym same)
                    (leads-same slots more slot g p links (get_or applied g.head.unit.0 0) at bound b h.head.version (link links k) leads other (omega arith) (λ _. (k, h, old.1, same, refl)))
                | inr apart_from ↦ leads-other slots more slot g p h.head.unit.0 h.head.version (link links k) (λ e. apart_from (sym e)) (c.nexts k h old.1)
              ])
        ])
        (put-cases slots more slot g p k h is)

  -- all chains after the message was put where a walk had found its place
  pub chained-more : (at : ℕ) → IsLastBelow slots links g.head.unit.0 g.head.version at → get_or applied g.head.unit.0 0 < g.head.version
      → ((k : ℕ) (h : Held) → in_slot slots k ≡ Some h → h.head.unit.0 ≡ g.head.unit.0 → h.head.version ≢ g.head.version)
      → IsChained more (set (set links slot (link links at)) at (Some slot)) applied
  chained-more at last unwritten new =
      let there = found at last unwritten new in
      record {
        firsts = firsts-more at there.0 last.link_in there.1 there.2;
        nexts = nexts-more at there.0 last.link_in there.1 there.2;
      }

-- a link that leads above a bound leads on where a message up to it is taken out
leads-less : (slots less : List (Option Held)) (slot : ℕ) (g : Held) → IsPut less slots slot g → (unit bound : ℕ) (to : Option ℕ) → (g.head.unit.0 ≡ unit → g.head.version ≤ bound)
    → LeadsAbove slots unit bound to → LeadsAbove less unit bound to
leads-less slots less slot g p unit bound to low l = record {
  none = λ e k h is own. l.none e k h (put-keeps less slots slot g p k h is) own;
  next = λ k e. let n = l.next k e in
      let kept : k ≢ slot = λ same.
      let one : n.held ≡ g = (let e : Some n.held ≡ Some g = sym n.is_held ∙ ap (in_slot slots) same ∙ p.own in cc) in
      let own : g.head.unit.0 ≡ unit = ap (λ x. x.head.unit.0) (sym one) ∙ n.of_unit in
      let version = ap (λ x. x.head.version) one in
      omega (arith, low own, n.above) in
      record {
        held = n.held;
        is_held = sym (p.others k kept) ∙ n.is_held;
        of_unit = n.of_unit;
        above = n.above;
        least = λ j h is own up. n.least j h (put-keeps less slots slot g p j h is) own up;
      };
}

-- all chains after the first of a chain, the next version, was taken out
pub chained-less : (slots less : List (Option Held)) (slot : ℕ) (g : Held) → IsPut less slots slot g → length less ≡ length slots
    → (links : List (Option ℕ)) (applied : List ℕ) → IsChained slots links applied → length links ≡ length slots + length applied
    → g.head.unit.0 < length applied → IsUnwritten slots applied → g.head.version ≡ get_or applied g.head.unit.0 0 + 1
    → IsChained less (set links (length slots + g.head.unit.0) (link links slot)) (set applied g.head.unit.0 g.head.version)
chained-less slots less slot g p same_size links applied c size unit_in free next = record {
  firsts = λ u in'.
      let within : u < length applied = omega (arith, length-set applied g.head.unit.0 g.head.version) in
      let where_is : length less + u ≡ length slots + u = omega arith in
      subst (λ i. LeadsAbove less u (get_or (set applied g.head.unit.0 g.head.version) u 0) (link (set links (length slots + g.head.unit.0) (link links slot)) i)) (sym where_is)
      (elim (cases_eq u g.head.unit.0) [
        | inl same ↦
            let to : link (set links (length slots + g.head.unit.0) (link links slot)) (length slots + u) ≡ link links slot =
            ap (λ w. link (set links (length slots + g.head.unit.0) (link links slot)) (length slots + w)) same
            ∙ get_or-set_same links (length slots + g.head.unit.0) (link links slot) None (omega arith) in
            let now : get_or (set applied g.head.unit.0 g.head.version) u 0 ≡ g.head.version =
            ap (λ w. get_or (set applied g.head.unit.0 g.head.version) w 0) same ∙ get_or-set_same applied g.head.unit.0 g.head.version 0 unit_in in
            rw (to, now) (subst (λ w. LeadsAbove less w g.head.version (link links slot)) (sym same)
            (leads-less slots less slot g p g.head.unit.0 g.head.version (link links slot) (λ _. omega arith) (c.nexts slot g p.own)))
        | inr other ↦
            let to : link (set links (length slots + g.head.unit.0) (link links slot)) (length slots + u) ≡ link links (length slots + u) =
            get_or-set_other links (length slots + g.head.unit.0) (length slots + u) (link links slot) None (λ e. other (omega arith)) in
            let now : get_or (set applied g.head.unit.0 g.head.version) u 0 ≡ get_or applied u 0 = get_or-set_other applied g.head.unit.0 u g.head.version 0 other in
            rw (to, now) (leads-less slots less slot g p u (get_or applied u 0) (link links (length slots + u)) (λ e. absurd (other (sym e))) (c.firsts u within))
      ]);
  nexts = λ k h is.
      let there : in_slot slots k ≡ Some h = put-keeps less slots slot g p k h is in
      let within : k < length slots = held-within slots k h there in
      let to : link (set links (length slots + g.head.unit.0) (link links slot)) k ≡ link links k =
      get_or-set_other links (length slots + g.head.unit.0) k (link links slot) None (λ e. omega arith) in
      let low : g.head.unit.0 ≡ h.head.unit.0 → g.head.version ≤ h.head.version = λ e.
      let above : get_or applied g.head.unit.0 0 < h.head.version = subst (λ u. get_or applied u 0 < h.head.version) (sym e) (free.above k h there) in omega arith in
      rw to (leads-less slots less slot g p h.head.unit.0 h.head.version (link links k) low (c.nexts k h there));
}

-- A walk along a chain.
use Rattle.std.proofs.Common.{◌≡◌, ℕ, ◌+◌, ◌-◌, ◌<◌, true, false, List, length, Option, Some, None, sym, ap, ◌∙◌, arith, inl, inr, ⊎_elim}
use Rattle.std.proofs.lemmas.List.{get_or_past}
use Rattle.std.proofs.lemmas.Bool.{cases_lt, le-ltb}
use Rattle.xv_hold.specs.declared.hold.Held.{Held}
use Rattle.xv_hold.specs.Arrival.{in_slot}
use Rattle.xv_hold.specs.Chains.{link, is_below, IsWalkable, IsLinkBelow}

pub record IsAt (slots : List (Option Held)) (links : List (Option ℕ)) (unit version at : ℕ) : Type 0 where
  pub link_in : at < length links
  pub below : IsLinkBelow slots unit version at

-- how far the versions may still rise
abbrev pub left : ℕ → Option Held → ℕ
left version None = version + 1
left version (Some h) = version - h.head.version

-- a slot that holds a message is one of the slots
pub held-within : (slots : List (Option Held)) (k : ℕ) (h : Held) → in_slot slots k ≡ Some h → k < length slots
held-within slots k h is = elim (cases_lt k (length slots)) [
  | inl l ↦ l
  | inr past ↦ let none : in_slot slots k ≡ None = get_or_past slots k None past in absurd cc
]

-- a link of the chain leads to a message of the unit
pub leads : (slots : List (Option Held)) (links : List (Option ℕ)) (unit version at k : ℕ) → IsWalkable slots links unit → IsAt slots links unit version at
    → link links at ≡ Some k → (h : Held) × (in_slot slots k ≡ Some h) × (h.head.unit.0 ≡ unit)
leads slots links unit version at k w p is = ⊎_elim
    (λ own. w.starts k (ap (link links) (sym own) ∙ is))
    (λ other. let next = w.goes_on at k other.0 other.1 other.2 is in (next.0, next.1, next.2))
    p.below

pub leads-within : (slots : List (Option Held)) (links : List (Option ℕ)) (unit version at k : ℕ) → IsWalkable slots links unit → IsAt slots links unit version at
    → link links at ≡ Some k → k < length slots
leads-within slots links unit version at k w p is = let next = leads slots links unit version at k w p is in held-within slots k next.0 next.1

below-version : (version : ℕ) (slot : Option Held) (h : Held) → slot ≡ Some h → is_below version slot ≡ true → h.head.version < version
below-version version slot h is below = elim (cases_lt h.head.version version) [
  | inl l ↦ l
  | inr g ↦
      let test : is_below version slot ≡ false = ap (is_below version) is ∙ le-ltb h.head.version version g in
      absurd cc
]

-- one step on, to a message below the version
pub goes-on : (slots : List (Option Held)) (links : List (Option ℕ)) (unit version at k : ℕ) → IsWalkable slots links unit → IsAt slots links unit version at
    → link links at ≡ Some k → is_below version (in_slot slots k) ≡ true → IsAt slots links unit version k
goes-on slots links unit version at k w p is below =
    let next = leads slots links unit version at k w p is in
    record {
      link_in = omega (arith, held-within slots k next.0 next.1, w.within);
      below = inr (next.0, next.1, next.2, below-version version (in_slot slots k) next.0 next.1 below);
    }

-- The chains: for each unit its held messages with rising versions.
use Rattle.std.specs.Prelude.{◌≡◌, ◌<◌, ◌≤◌, ℕ, ◌+◌, ◌⊎◌, nat_lt, Bool, false, List, length, get_or, Option, Some, None}
use Rattle.xv_hold.specs.declared.hold.Held.{Held}
use Rattle.xv_hold.specs.Arrival.{in_slot}

-- where a link leads: each slot has one, and after those each unit
abbrev pub link : List (Option ℕ) → ℕ → Option ℕ
link links i = get_or links i None

-- a slot holds a version of a unit above a bound, and none that is held of the unit is between
pub record IsLeastAbove (slots : List (Option Held)) (unit bound slot : ℕ) : Type 0 where
  pub held : Held
  pub is_held : in_slot slots slot ≡ Some held
  pub of_unit : held.head.unit.0 ≡ unit
  pub above : bound < held.head.version
  pub least : (k : ℕ) (h : Held) → in_slot slots k ≡ Some h → h.head.unit.0 ≡ unit → bound < h.head.version → held.head.version ≤ h.head.version

-- a link leads to the least version of a unit above a bound, and nowhere where none is held
pub record LeadsAbove (slots : List (Option Held)) (unit bound : ℕ) (to : Option ℕ) : Type 0 where
  pub none : to ≡ None → (k : ℕ) (h : Held) → in_slot slots k ≡ Some h → h.head.unit.0 ≡ unit → h.head.version ≤ bound
  pub next : (k : ℕ) → to ≡ Some k → IsLeastAbove slots unit bound k

-- each unit's link leads to the least version above the one written last, and each held message's to the next
pub record IsChained (slots : List (Option Held)) (links : List (Option ℕ)) (applied : List ℕ) : Type 0 where
  pub firsts : (u : ℕ) → u < length applied → LeadsAbove slots u (get_or applied u 0) (link links (length slots + u))
  pub nexts : (k : ℕ) (h : Held) → in_slot slots k ≡ Some h → LeadsAbove slots h.head.unit.0 h.head.version (link links k)

-- the last slot of a unit's chain, from which no link leads on; none where the unit's own link leads nowhere
pub record IsEnd (slots : List (Option Held)) (links : List (Option ℕ)) (unit : ℕ) (end : Option ℕ) : Type 0 where
  pub none : end ≡ None → link links (length slots + unit) ≡ None
  pub last : (k : ℕ) → end ≡ Some k → (h : Held) × (in_slot slots k ≡ Some h) × (h.head.unit.0 ≡ unit) × (link links k ≡ None)

-- the last slot once a slot was put before `next`, and once the first was taken out, which was before `next`
abbrev pub end_with : ℕ → Option ℕ → Option ℕ → Option ℕ
end_with slot None end = Some slot
end_with slot (Some next) end = end

abbrev pub end_without : Option ℕ → Option ℕ → Option ℕ
end_without None end = None
end_without (Some next) end = end

-- what a walk along the chain of a unit from its first link needs: each link leads to a message of the unit, and on
-- to a greater version
pub record IsWalkable (slots : List (Option Held)) (links : List (Option ℕ)) (unit : ℕ) : Type 0 where
  pub within : length slots + unit < length links
  pub starts : (k : ℕ) → link links (length slots + unit) ≡ Some k → (h : Held) × (in_slot slots k ≡ Some h) × (h.head.unit.0 ≡ unit)
  pub goes_on : (k j : ℕ) (h : Held) → in_slot slots k ≡ Some h → h.head.unit.0 ≡ unit → link links k ≡ Some j
      → (g : Held) × (in_slot slots j ≡ Some g) × (g.head.unit.0 ≡ unit) × (h.head.version < g.head.version)

-- whether a slot holds a message below a version
abbrev pub is_below : ℕ → Option Held → Bool
is_below version None = false
is_below version (Some h) = nat_lt h.head.version version

-- a link of a unit's chain: the unit's own, or that of a message below a version
abbrev pub IsLinkBelow : List (Option Held) → ℕ → ℕ → ℕ → Type 0
IsLinkBelow slots unit version at =
    (at ≡ length slots + unit) ⊎ ((h : Held) × (in_slot slots at ≡ Some h) × (h.head.unit.0 ≡ unit) × (h.head.version < version))

-- and the last such: it leads to no message below the version
pub record IsLastBelow (slots : List (Option Held)) (links : List (Option ℕ)) (unit version at : ℕ) : Type 0 where
  pub link_in : at < length links
  pub below : IsLinkBelow slots unit version at
  pub stops : (k : ℕ) (h : Held) → link links at ≡ Some k → in_slot slots k ≡ Some h → version ≤ h.head.version

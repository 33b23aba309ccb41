-- A unit's versions issued are those applied and those outstanding.
use Rattle.std.specs.Prelude.{◌≡◌, ◌≤◌, ◌<◌, ℕ, zero, suc, ◌+◌, ◌-◌, nat_lt, not, true}
use Rattle.std.proofs.Common.{arith, ap, ◌∙◌, inl, inr}
use Rattle.std.proofs.lemmas.Bool.{cases_lt, and_parts, eqb-true, ltb-false, not-true, both_ways, le-ltb}
use Rattle.xv_model.specs.Job.{Job}
use Rattle.xv_model.specs.View.{View, UnitHead, number}
use Rattle.xv_model.specs.Outstanding.{outstanding, of_unit, is_version}
use Rattle.xv_model.specs.Invariant.{IsViewOf}
use Rattle.xv_model.specs.Report.{probe}
use Rattle.xv_model.proofs.Sums.Splits.{outstanding-split, outstanding-none, is_below, is_from, unit-parts, below-next}

-- no version is below 0
none_below : (v : View) (unit : ℕ) → outstanding v (is_below unit 0) ≡ 0
none_below v unit = outstanding-none v (is_below unit 0) (λ m passes. absurd (both_ways (nat_lt m.version 0) (le-ltb m.version 0 (omega arith)) (and_parts (of_unit unit m) (nat_lt m.version 0) passes).1))

-- below n there are those above the one applied
below : (job : Job) (v : View) (unit n : ℕ) → IsViewOf job v → n ≤ number v.outbox.issued unit + 1 → outstanding v (is_below unit n) ≡ n - (number v.hold.applied unit + 1)
below job v unit zero inv within = let none = none_below v unit in omega arith
below job v unit (suc n) inv within =
    let before = below job v unit n inv (omega arith) in
    let more = outstanding-split v (is_below unit (suc n)) (is_below unit n) (is_version unit n) (below-next unit n) in
    elim (cases_lt (number v.hold.applied unit) n) [
      | inl above ↦ let one = inv.versions.once unit n above (omega arith) in omega arith
      | inr le ↦ let none = inv.versions.none_applied unit n le in omega arith
    ]

-- none is above the one issued
from_none : (job : Job) (v : View) (unit : ℕ) (m : UnitHead) → IsViewOf job v → is_from unit (number v.outbox.issued unit + 1) m ≡ true → outstanding v (is_version m.unit.0 m.version) ≡ 0
from_none job v unit m inv passes =
    let parts = and_parts (of_unit unit m) (not (nat_lt m.version (number v.outbox.issued unit + 1))) passes in
    let same : m.unit.0 ≡ unit = eqb-true m.unit.0 unit parts.0 in
    let above : number v.outbox.issued unit < m.version = let le = ltb-false m.version (number v.outbox.issued unit + 1) (not-true _ parts.1) in omega arith in
    ap (λ (u : ℕ). outstanding v (is_version u m.version)) same ∙ inv.versions.none_to_come unit m.version above

pub issued-sum : (job : Job) (v : View) (unit : ℕ) → IsViewOf job v → number v.outbox.issued unit ≡ number v.hold.applied unit + outstanding v (of_unit unit)
issued-sum job v unit inv =
    let n = number v.outbox.issued unit + 1 in
    let parts = outstanding-split v (of_unit unit) (is_below unit n) (is_from unit n) (unit-parts unit n) in
    let low = below job v unit n inv (omega arith) in
    let high = outstanding-none v (is_from unit n) (λ m passes. from_none job v unit m inv passes) in
    let order = inv.versions.in_order unit in
    omega arith

pub probe-sum : (job : Job) (v : View) (unit : ℕ) → IsViewOf job v → (probe job v unit).issued ≡ (probe job v unit).applied + ((probe job v unit).outbox + (probe job v unit).wires + (probe job v unit).held)
probe-sum job v unit inv = let sum = issued-sum job v unit inv in omega arith

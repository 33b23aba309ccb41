-- How many messages of a unit are outstanding: one for each version made and not written.
use Rattle.std.specs.Prelude.{◌≡◌, ◌≤◌, ℕ, zero, suc, ◌+◌, ◌==◌, ◌&&◌, not, nat_lt, Bool, true, false, List, [], ◌∷◌, count_by, if◌then◌else◌}
use Rattle.std.proofs.Common.{refl, ap, ◌∙◌, arith, inl, inr}
use Rattle.std.proofs.lemmas.Bool.{cases_lt, cases_eq, and_parts, eqb-true, eq-eqb, ne_eqb, ltb-false, lt-ltb, le-ltb}
use Rattle.std.proofs.lemmas.List.Sums.{sum_by-cons}
use Rattle.xv_base.specs.declared.operation.UnitHead.{UnitHead}
use Rattle.xv_model.specs.View.{View, number}
use Rattle.xv_model.specs.Outstanding.{count, count_groups, count_streams, outstanding, of_unit, is_version}
use Rattle.xv_model.specs.Invariant.{EachVersionOnce}
use Rattle.xv_model.proofs.Bags.{is_version-from}

-- a test that passes what one of two tests passes, which no message passes both
abbrev Splits : (UnitHead → Bool) → (UnitHead → Bool) → (UnitHead → Bool) → Type 0
Splits a b c = (m : UnitHead) → (if a m then 1 else 0) ≡ (if b m then 1 else 0) + (if c m then 1 else 0)

count-splits : (a b c : UnitHead → Bool) → Splits a b c → (ms : List UnitHead) → count a ms ≡ count b ms + count c ms
count-splits a b c h [] = refl
count-splits a b c h (m ∷ ms) = let here = h m in let rest = count-splits a b c h ms in omega arith

groups-split : (a b c : UnitHead → Bool) → Splits a b c → (gs : List (List UnitHead)) → count_groups a gs ≡ count_groups b gs + count_groups c gs
groups-split a b c h [] = refl
groups-split a b c h (g ∷ gs) = let here = count-splits a b c h g in let rest = groups-split a b c h gs in omega arith

streams-split : (a b c : UnitHead → Bool) → Splits a b c → (ss : List (List (List UnitHead))) → count_streams a ss ≡ count_streams b ss + count_streams c ss
streams-split a b c h [] = refl
streams-split a b c h (s ∷ ss) = let here = groups-split a b c h s in let rest = streams-split a b c h ss in omega arith

bag-splits : (v : View) (a b c : UnitHead → Bool) → Splits a b c → outstanding v a ≡ outstanding v b + outstanding v c
bag-splits v a b c h =
    let made = count-splits a b c h v.outbox.messages in
    let sent = streams-split a b c h v.streams in
    let held = count-splits a b c h v.hold.held in
    omega arith

-- the messages of a unit of a version below a number, and of one from it on
abbrev below : ℕ → ℕ → UnitHead → Bool
below unit n m = (m.unit.0 == unit) && nat_lt m.version n

abbrev from : ℕ → ℕ → UnitHead → Bool
from unit n m = (m.unit.0 == unit) && not (nat_lt m.version n)

one-more : (is low last next : Bool) → (if next then 1 else 0) ≡ (if low then 1 else 0) + (if last then 1 else 0) → (if is && next then 1 else 0) ≡ (if is && low then 1 else 0) + (if is && last then 1 else 0)
one-more true low last next h = h
one-more false low last next h = refl

next-below : (version n : ℕ) → (if nat_lt version (suc n) then 1 else 0) ≡ (if nat_lt version n then 1 else 0) + (if version == n then 1 else 0)
next-below version n = elim (cases_lt version n) [
  | inl lt ↦ rw (lt-ltb version (suc n) (omega arith), lt-ltb version n lt, ne_eqb version n (λ e. absurd (omega arith))) refl
  | inr ge ↦ elim (cases_eq version n) [
    | inl same ↦ rw (same, lt-ltb n (suc n) (omega arith), le-ltb n n (omega arith), eq-eqb n n refl) refl
    | inr other ↦ rw (le-ltb version (suc n) (omega arith), le-ltb version n ge, ne_eqb version n other) refl
  ]
]

below-splits : (unit n : ℕ) → Splits (below unit (suc n)) (below unit n) (is_version unit n)
below-splits unit n m = one-more (m.unit.0 == unit) (nat_lt m.version n) (m.version == n) (nat_lt m.version (suc n)) (next-below m.version n)

one-side : (is low : Bool) → (if is then 1 else 0) ≡ (if is && low then 1 else 0) + (if is && not low then 1 else 0)
one-side true true = refl
one-side true false = refl
one-side false low = refl

unit-splits : (unit n : ℕ) → Splits (of_unit unit) (below unit n) (from unit n)
unit-splits unit n m = one-side (m.unit.0 == unit) (nat_lt m.version n)

-- where each version from a number on is counted as none, so are all together
abbrev NoneFrom : ((UnitHead → Bool) → ℕ) → ℕ → ℕ → Type 0
NoneFrom bag unit n = (version : ℕ) → n ≤ version → bag (is_version unit version) ≡ 0

off : (b : Bool) → not b ≡ true → b ≡ false
off true e = absurd (cc)
off false e = refl

count-none : (unit n : ℕ) (ms : List UnitHead) → NoneFrom (λ test. count test ms) unit n → count (from unit n) ms ≡ 0
count-none unit n [] h = refl
count-none unit n (m ∷ ms) h =
    let rest = count-none unit n ms (λ version le. let all = h version le in omega arith) in
    let here : ◌≡◌ {A = ℕ} (if from unit n m then 1 else 0) 0 = by (from unit n m) refl in
    omega arith
  where
    by : (b : Bool) → from unit n m ≡ b → ◌≡◌ {A = ℕ} (if b then 1 else 0) 0
    by false e = refl
    by true e =
        let both = and_parts (m.unit.0 == unit) (not (nat_lt m.version n)) e in
        let le : n ≤ m.version = ltb-false m.version n (off (nat_lt m.version n) both.1) in
        let passes = is_version-from unit m.version m (eqb-true m.unit.0 unit both.0) refl in
        let one : ◌≡◌ {A = ℕ} (if is_version unit m.version m then 1 else 0) 1 = ap {B = ℕ} (λ (b : Bool). if b then 1 else 0) passes in
        let none = h m.version le in
        absurd (omega arith)

groups-none : (unit n : ℕ) (gs : List (List UnitHead)) → NoneFrom (λ test. count_groups test gs) unit n → count_groups (from unit n) gs ≡ 0
groups-none unit n [] h = refl
groups-none unit n (g ∷ gs) h =
    let here = count-none unit n g (λ version le. let all = h version le in omega arith) in
    let rest = groups-none unit n gs (λ version le. let all = h version le in omega arith) in
    omega arith

streams-none : (unit n : ℕ) (ss : List (List (List UnitHead))) → NoneFrom (λ test. count_streams test ss) unit n → count_streams (from unit n) ss ≡ 0
streams-none unit n [] h = refl
streams-none unit n (s ∷ ss) h =
    let here = groups-none unit n s (λ version le. let all = h version le in omega arith) in
    let rest = streams-none unit n ss (λ version le. let all = h version le in omega arith) in
    omega arith

bag-none : (v : View) (unit n : ℕ) → NoneFrom (outstanding v) unit n → outstanding v (from unit n) ≡ 0
bag-none v unit n h =
    let made = count-none unit n v.outbox.messages (λ version le. let all = h version le in omega arith) in
    let sent = streams-none unit n v.streams (λ version le. let all = h version le in omega arith) in
    let held = count-none unit n v.hold.held (λ version le. let all = h version le in omega arith) in
    omega arith

-- no message is of a version below 0
none-below : (m : UnitHead) (is : Bool) → (is && nat_lt m.version 0) ≡ false
none-below m true = le-ltb m.version 0 (omega arith)
none-below m false = refl

count-zero : (test : UnitHead → Bool) → ((m : UnitHead) → test m ≡ false) → (ms : List UnitHead) → count test ms ≡ 0
count-zero test h [] = refl
count-zero test h (m ∷ ms) =
    let here : ◌≡◌ {A = ℕ} (if test m then 1 else 0) 0 = ap {B = ℕ} (λ (b : Bool). if b then 1 else 0) (h m) in
    omega (arith, here, count-zero test h ms)

groups-zero : (test : UnitHead → Bool) → ((m : UnitHead) → test m ≡ false) → (gs : List (List UnitHead)) → count_groups test gs ≡ 0
groups-zero test h [] = refl
groups-zero test h (g ∷ gs) = let here = count-zero test h g in let rest = groups-zero test h gs in omega arith

streams-zero : (test : UnitHead → Bool) → ((m : UnitHead) → test m ≡ false) → (ss : List (List (List UnitHead))) → count_streams test ss ≡ 0
streams-zero test h [] = refl
streams-zero test h (s ∷ ss) = let here = groups-zero test h s in let rest = streams-zero test h ss in omega arith

bag-zero : (v : View) (unit : ℕ) → outstanding v (below unit 0) ≡ 0
bag-zero v unit =
    let none : (m : UnitHead) → below unit 0 m ≡ false = λ m. none-below m (m.unit.0 == unit) in
    let made = count-zero (below unit 0) none v.outbox.messages in
    let sent = streams-zero (below unit 0) none v.streams in
    let held = count-zero (below unit 0) none v.hold.held in
    omega arith

module _ (v : View) (unit : ℕ) (once : EachVersionOnce (outstanding v) v.outbox.issued v.hold.applied) where
  -- no version that was written is outstanding, and each other one once
  up-to-applied : (n : ℕ) → n ≤ number v.hold.applied unit → outstanding v (below unit (suc n)) ≡ 0
  up-to-applied zero le =
      let first = bag-splits v (below unit 1) (below unit 0) (is_version unit 0) (below-splits unit 0) in
      let zero_below = bag-zero v unit in
      let none = once.none_applied unit 0 le in
      omega arith
  up-to-applied (suc n) le =
      let next = bag-splits v (below unit (suc (suc n))) (below unit (suc n)) (is_version unit (suc n)) (below-splits unit (suc n)) in
      let before = up-to-applied n (omega arith) in
      let none = once.none_applied unit (suc n) le in
      omega arith

  up-to : (n : ℕ) → number v.hold.applied unit ≤ n → n ≤ number v.outbox.issued unit → outstanding v (below unit (suc n)) + number v.hold.applied unit ≡ n
  up-to zero le made = let none = up-to-applied zero (omega arith) in omega arith
  up-to (suc n) le made = elim (cases_lt n (number v.hold.applied unit)) [
    | inl lt ↦ let none = up-to-applied (suc n) (omega arith) in omega arith
    | inr ge ↦
        let next = bag-splits v (below unit (suc (suc n))) (below unit (suc n)) (is_version unit (suc n)) (below-splits unit (suc n)) in
        let before = up-to n ge (omega arith) in
        let one = once.once unit (suc n) (omega arith) made in
        omega arith
  ]

  pub outstanding-of : outstanding v (of_unit unit) + number v.hold.applied unit ≡ number v.outbox.issued unit
  outstanding-of =
      let last = number v.outbox.issued unit in
      let sides = bag-splits v (of_unit unit) (below unit (suc last)) (from unit (suc last)) (unit-splits unit (suc last)) in
      let low = up-to last (once.in_order unit) (omega arith) in
      let high = bag-none v unit (suc last) (λ version le. once.none_to_come unit version (omega arith)) in
      omega arith

-- how many messages of a list are of a unit
pub count-of : (unit : ℕ) (ms : List UnitHead) → count_by (λ (m : UnitHead). m.unit.0 == unit) ms ≡ count (of_unit unit) ms
count-of unit [] = refl
count-of unit (m ∷ ms) =
    sum_by-cons (λ (x : UnitHead). if x.unit.0 == unit then 1 else 0) m ms
    ∙ ap (λ (n : ℕ). (if m.unit.0 == unit then 1 else 0) + n) (count-of unit ms)

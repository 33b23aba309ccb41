-- Counts of a test that is one of two others, and of one that no message passes.
use Rattle.std.specs.Prelude.{◌≡◌, ℕ, suc, ◌+◌, ◌==◌, ◌&&◌, not, nat_lt, Bool, true, false, List, [], ◌∷◌, if◌then◌else◌}
use Rattle.std.proofs.Common.{arith, refl, inl, inr}
use Rattle.std.proofs.lemmas.Bool.{cases_Bool, cases_eq, cases_lt, lt-ltb, le-ltb, eq-eqb, ne_eqb}
use Rattle.xv_model.specs.View.{View, UnitHead}
use Rattle.xv_model.specs.Outstanding.{count, count_groups, count_streams, outstanding, of_unit, is_version}
use Rattle.xv_model.proofs.Contents.Messages.{version_same}

-- a test as a number, and when it is the sum of two others
abbrev pub one_if : Bool → ℕ
one_if b = if b then 1 else 0

abbrev pub IsSum : (UnitHead → Bool) → (UnitHead → Bool) → (UnitHead → Bool) → Type 0
IsSum test a b = (m : UnitHead) → one_if (test m) ≡ one_if (a m) + one_if (b m)

count-split : (test a b : UnitHead → Bool) (ms : List UnitHead) → IsSum test a b → count test ms ≡ count a ms + count b ms
count-split test a b [] sum = refl
count-split test a b (m ∷ ms) sum = let here = sum m in let rest = count-split test a b ms sum in omega arith

count_groups-split : (test a b : UnitHead → Bool) (gs : List (List UnitHead)) → IsSum test a b → count_groups test gs ≡ count_groups a gs + count_groups b gs
count_groups-split test a b [] sum = refl
count_groups-split test a b (ms ∷ gs) sum = let here = count-split test a b ms sum in let rest = count_groups-split test a b gs sum in omega arith

count_streams-split : (test a b : UnitHead → Bool) (ss : List (List (List UnitHead))) → IsSum test a b → count_streams test ss ≡ count_streams a ss + count_streams b ss
count_streams-split test a b [] sum = refl
count_streams-split test a b (gs ∷ ss) sum = let here = count_groups-split test a b gs sum in let rest = count_streams-split test a b ss sum in omega arith

pub outstanding-split : (v : View) (test a b : UnitHead → Bool) → IsSum test a b → outstanding v test ≡ outstanding v a + outstanding v b
outstanding-split v test a b sum =
    let made = count-split test a b v.outbox.messages sum in
    let sent = count_streams-split test a b v.streams sum in
    let held = count-split test a b v.hold.held sum in
    omega arith

-- the test for a message's own version, and a test that passes none whose version is counted
abbrev own_version : UnitHead → UnitHead → Bool
own_version m = is_version m.unit.0 m.version

head_passes_not : (test : UnitHead → Bool) (m : UnitHead) (n : ℕ) → (test m ≡ true → one_if (own_version m m) + n ≡ 0) → test m ≡ false
head_passes_not test m n none = elim (cases_Bool (test m)) [
  | inl passes ↦ let e = none passes in let same = version_same m in absurd (let k = rw same at e in omega arith)
  | inr not ↦ not
]

count-none : (test : UnitHead → Bool) (ms : List UnitHead) → ((m : UnitHead) → test m ≡ true → count (own_version m) ms ≡ 0) → count test ms ≡ 0
count-none test [] none = refl
count-none test (m ∷ ms) none =
    let rest = count-none test ms (λ k passes. let e = none k passes in omega arith) in
    rw (head_passes_not test m (count (own_version m) ms) (none m)) (omega arith)

count_groups-none : (test : UnitHead → Bool) (gs : List (List UnitHead)) → ((m : UnitHead) → test m ≡ true → count_groups (own_version m) gs ≡ 0) → count_groups test gs ≡ 0
count_groups-none test [] none = refl
count_groups-none test (ms ∷ gs) none =
    let here = count-none test ms (λ k passes. let e = none k passes in omega arith) in
    let rest = count_groups-none test gs (λ k passes. let e = none k passes in omega arith) in
    omega arith

count_streams-none : (test : UnitHead → Bool) (ss : List (List (List UnitHead))) → ((m : UnitHead) → test m ≡ true → count_streams (own_version m) ss ≡ 0) → count_streams test ss ≡ 0
count_streams-none test [] none = refl
count_streams-none test (gs ∷ ss) none =
    let here = count_groups-none test gs (λ k passes. let e = none k passes in omega arith) in
    let rest = count_streams-none test ss (λ k passes. let e = none k passes in omega arith) in
    omega arith

pub outstanding-none : (v : View) (test : UnitHead → Bool) → ((m : UnitHead) → test m ≡ true → outstanding v (is_version m.unit.0 m.version) ≡ 0) → outstanding v test ≡ 0
outstanding-none v test none =
    let made = count-none test v.outbox.messages (λ k passes. let e = none k passes in omega arith) in
    let sent = count_streams-none test v.streams (λ k passes. let e = none k passes in omega arith) in
    let held = count-none test v.hold.held (λ k passes. let e = none k passes in omega arith) in
    omega arith

-- a unit's messages of a version below n, and those of n or more
abbrev pub is_below : ℕ → ℕ → UnitHead → Bool
is_below unit n m = of_unit unit m && nat_lt m.version n

abbrev pub is_from : ℕ → ℕ → UnitHead → Bool
is_from unit n m = of_unit unit m && not (nat_lt m.version n)

parts_by : (a b : Bool) → one_if a ≡ one_if (a && b) + one_if (a && not b)
parts_by true true = refl
parts_by true false = refl
parts_by false b = refl

pub unit-parts : (unit n : ℕ) → IsSum (of_unit unit) (is_below unit n) (is_from unit n)
unit-parts unit n m = parts_by (of_unit unit m) (nat_lt m.version n)

below_next : (k n : ℕ) → one_if (nat_lt k (suc n)) ≡ one_if (nat_lt k n) + one_if (k == n)
below_next k n = elim (cases_lt k n) [
  | inl lt ↦ rw (lt-ltb k (suc n) (omega arith), lt-ltb k n lt, ne_eqb k n (λ e. omega arith)) refl
  | inr le ↦ elim (cases_eq k n) [
    | inl same ↦ rw (lt-ltb k (suc n) (omega arith), le-ltb k n le, eq-eqb k n same) refl
    | inr other ↦ rw (le-ltb k (suc n) (omega arith), le-ltb k n le, ne_eqb k n other) refl
  ]
]

next_by : (a b c d : Bool) → one_if b ≡ one_if c + one_if d → one_if (a && b) ≡ one_if (a && c) + one_if (a && d)
next_by true b c d h = h
next_by false b c d h = refl

pub below-next : (unit n : ℕ) → IsSum (is_below unit (suc n)) (is_below unit n) (is_version unit n)
below-next unit n m = next_by (of_unit unit m) (nat_lt m.version (suc n)) (nat_lt m.version n) (m.version == n) (below_next m.version n)

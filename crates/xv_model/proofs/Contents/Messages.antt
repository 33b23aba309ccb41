-- Two functions that agree on every outstanding message map the messages to the same.
use Rattle.std.specs.Prelude.{◌≡◌, ◌<◌, ℕ, zero, suc, Bool, true, List, [], ◌∷◌, length, map, get_or}
use Rattle.std.proofs.Common.{arith, refl, inl, inr}
use Rattle.std.proofs.lemmas.Bool.{and_from, eq-eqb, cases_lt}
use Rattle.std.proofs.lemmas.List.{get_or_past}
use Rattle.xv_model.specs.Job.{Job, unit_count}
use Rattle.xv_model.specs.Invariant.{IsViewOf}
use Rattle.xv_model.specs.View.{View, UnitHead, number, no_message}
use Rattle.xv_model.specs.Outstanding.{count, count_groups, count_streams, is_message, is_version, outstanding}

-- the test that a message itself passes
abbrev pub is_this : UnitHead → UnitHead → Bool
is_this m = is_message m.unit.0 m.version m.at

pub is_this_same : (m : UnitHead) → is_this m m ≡ true
is_this_same m = and_from _ _ (and_from _ _ (eq-eqb m.unit.0 m.unit.0 refl) (eq-eqb m.version m.version refl)) (eq-eqb m.at m.at refl)

pub map-same : (f g : UnitHead → List ℕ) (ms : List UnitHead) → ((m : UnitHead) → 0 < count (is_this m) ms → f m ≡ g m) → map f ms ≡ map g ms
map-same f g [] h = refl
map-same f g (m ∷ ms) h =
    let here : f m ≡ g m = h m (rw (is_this_same m) (omega arith)) in
    let rest : map f ms ≡ map g ms = map-same f g ms (λ k p. h k (omega arith)) in
    rw (here, rest)

pub map_groups-same : (f g : UnitHead → List ℕ) (gs : List (List UnitHead)) → ((m : UnitHead) → 0 < count_groups (is_this m) gs → f m ≡ g m) → map (map f) gs ≡ map (map g) gs
map_groups-same f g [] h = refl
map_groups-same f g (ms ∷ gs) h =
    let here : map f ms ≡ map g ms = map-same f g ms (λ k p. h k (omega arith)) in
    let rest : map (map f) gs ≡ map (map g) gs = map_groups-same f g gs (λ k p. h k (omega arith)) in
    rw (here, rest)

pub map_streams-same : (f g : UnitHead → List ℕ) (ss : List (List (List UnitHead))) → ((m : UnitHead) → 0 < count_streams (is_this m) ss → f m ≡ g m) → map (map (map f)) ss ≡ map (map (map g)) ss
map_streams-same f g [] h = refl
map_streams-same f g (gs ∷ ss) h =
    let here : map (map f) gs ≡ map (map g) gs = map_groups-same f g gs (λ k p. h k (omega arith)) in
    let rest : map (map (map f)) ss ≡ map (map (map g)) ss = map_streams-same f g ss (λ k p. h k (omega arith)) in
    rw (here, rest)

-- a message at a place is counted
pub count-at : (test : UnitHead → Bool) (ms : List UnitHead) (i : ℕ) → i < length ms → test (get_or ms i no_message) ≡ true → 0 < count test ms
count-at test [] i lt e = absurd (omega arith)
count-at test (m ∷ ms) zero lt e = rw e (omega arith)
count-at test (m ∷ ms) (suc i) lt e = let h = count-at test ms i (omega arith) e in omega arith

-- an outstanding version is one of a unit of the job
pub version_in_range : (job : Job) (v : View) (unit version : ℕ) → IsViewOf job v → 0 < outstanding v (is_version unit version) → unit < unit_count job
version_in_range job v unit version inv some = elim (cases_lt unit (unit_count job)) [
  | inl lt ↦ lt
  | inr past ↦
      let none_issued : number v.outbox.issued unit ≡ 0 = get_or_past v.outbox.issued unit 0 (let l = inv.lists.issued in omega arith) in
      elim (cases_lt (number v.outbox.issued unit) version) [
        | inl above ↦ let e = inv.versions.none_to_come unit version above in absurd (omega arith)
        | inr le ↦ let e = inv.versions.none_applied unit version (omega arith) in absurd (omega arith)
      ]
]

pub version_same : (m : UnitHead) → is_version m.unit.0 m.version m ≡ true
version_same m = and_from _ _ (eq-eqb m.unit.0 m.unit.0 refl) (eq-eqb m.version m.version refl)

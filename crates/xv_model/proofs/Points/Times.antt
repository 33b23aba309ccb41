-- The times of messages rise with their versions, over each event.
use Rattle.std.specs.Prelude.{◌≡◌, ◌⊎◌, ◌≤◌, ◌<◌, ℕ, ◌+◌, Bool, true, List, length, set}
use Rattle.std.proofs.Common.{arith, ap, inl, inr}
use Rattle.std.proofs.lemmas.Bool.{cases_Bool}
use Rattle.xv_model.specs.View.{UnitHead, number}
use Rattle.xv_model.specs.Outstanding.{Bag, is_version, is_message}
use Rattle.xv_model.specs.Invariant.{EachVersionOnce, TimesRise}
use Rattle.xv_model.proofs.Bags.{is_version-unit, is_version-number, is_message-version, is_message-at, version-above, version-within}
use Rattle.xv_model.proofs.Points.Versions.{one, by_unit, number-set_same, number-set_other}

-- a message counted in a bag with one more was there, or is the one more
pub more-cases : (bag more : Bag) (m : UnitHead) → ((test : UnitHead → Bool) → more test ≡ bag test + one (test m)) → (test : UnitHead → Bool) → 0 < more test → (0 < bag test) ⊎ (test m ≡ true)
more-cases bag more m adds test h = elim (cases_Bool (test m)) [
  | inl e ↦ inr e
  | inr e ↦ inl (let k = adds test in let l = ap one e in omega arith)
]

-- a bag whose messages are outstanding versions
abbrev pub Versioned : Bag → Type 0
Versioned bag = (unit version at : ℕ) → 0 < bag (is_message unit version at) → 0 < bag (is_version unit version)

-- what making one message does, at a time from the mark on
pub times-made : (bag more : Bag) (issued applied recorded : List ℕ) (mark later : ℕ) (m : UnitHead) → m.version ≡ number issued m.unit.0 + 1 → ((test : UnitHead → Bool) → more test ≡ bag test + one (test m)) → Versioned bag → mark ≤ m.at → m.at ≤ later → EachVersionOnce bag issued applied → TimesRise bag applied recorded mark → TimesRise more applied recorded later
times-made bag more issued applied recorded mark later m next adds versioned from to p t = record {
  rising = λ unit version at above at' h k le.
      elim (more-cases bag more m adds (is_message unit version at) h) [
        | inl old ↦ elim (more-cases bag more m adds (is_message unit above at') k) [
          | inl old' ↦ t.rising unit version at above at' old old' le
          | inr new' ↦ let a = t.to_mark unit version at old in let b = is_message-at unit above at' m new' in omega arith
        ]
        | inr new ↦ elim (more-cases bag more m adds (is_message unit above at') k) [
          | inl old' ↦
              let a = version-within bag issued applied unit above p (versioned unit above at' old') in
              let b = is_version-number unit version m (is_message-version unit version at m new) in
              let c = is_version-unit unit version m (is_message-version unit version at m new) in
              let d = ap (number issued) c in
              absurd (omega arith)
          | inr new' ↦ let a = is_message-at unit version at m new in let b = is_message-at unit above at' m new' in omega arith
        ]
      ];
  from_recorded = λ unit version at h k.
      elim (more-cases bag more m adds (is_message unit version at) h) [
        | inl old ↦ t.from_recorded unit version at old k
        | inr new ↦ let a = t.recorded_to_mark unit in let b = is_message-at unit version at m new in omega arith
      ];
  to_mark = λ unit version at h.
      elim (more-cases bag more m adds (is_message unit version at) h) [
        | inl old ↦ let a = t.to_mark unit version at old in omega arith
        | inr new ↦ let b = is_message-at unit version at m new in omega arith
      ];
  recorded_to_mark = λ unit. let a = t.recorded_to_mark unit in omega arith;
}

-- a later mark
pub times-later : (bag : Bag) (applied recorded : List ℕ) (mark later : ℕ) → mark ≤ later → TimesRise bag applied recorded mark → TimesRise bag applied recorded later
times-later bag applied recorded mark later le t = record {
  rising = t.rising;
  from_recorded = t.from_recorded;
  to_mark = λ unit version at h. let a = t.to_mark unit version at h in omega arith;
  recorded_to_mark = λ unit. let a = t.recorded_to_mark unit in omega arith;
}

-- what writing the message of a unit's next version does
pub times-applied : (bag less : Bag) (issued applied recorded : List ℕ) (mark : ℕ) (m : UnitHead) → m.unit.0 < length applied → m.unit.0 < length recorded → m.version ≡ number applied m.unit.0 + 1 → 0 < bag (is_message m.unit.0 m.version m.at) → ((test : UnitHead → Bool) → bag test ≡ one (test m) + less test) → Versioned bag → EachVersionOnce bag issued applied → TimesRise bag applied recorded mark → TimesRise less (set applied m.unit.0 m.version) (set recorded m.unit.0 m.at) mark
times-applied bag less issued applied recorded mark m there there' next itself takes versioned p t =
    let was = λ (test : UnitHead → Bool) (h : 0 < less test). let k = takes test in let r : 0 < bag test = omega arith in r in
    record {
      rising = λ unit version at above at' h k le. t.rising unit version at above at' (was (is_message unit version at) h) (was (is_message unit above at') k) le;
      from_recorded = by_unit (λ u. (version at : ℕ) → 0 < less (is_message u version at) → 0 < number (set applied m.unit.0 m.version) u → number (set recorded m.unit.0 m.at) u ≤ at) m.unit.0
          (λ version at h k.
          let there_was = was (is_message m.unit.0 version at) h in
          let above = version-above bag issued applied m.unit.0 version p (versioned m.unit.0 version at there_was) in
          let same = number-set_same recorded m.unit.0 m.at there' in
          let a = t.rising m.unit.0 m.version m.at version at itself there_was (omega arith) in
          omega arith)
          (λ u ne version at h k.
          let a = t.from_recorded u version at (was (is_message u version at) h) (rw (number-set_other applied m.unit.0 m.version u ne) at k) in
          let other = number-set_other recorded m.unit.0 m.at u ne in
          omega arith);
      to_mark = λ unit version at h. t.to_mark unit version at (was (is_message unit version at) h);
      recorded_to_mark = by_unit (λ u. number (set recorded m.unit.0 m.at) u ≤ mark) m.unit.0
          (let same = number-set_same recorded m.unit.0 m.at there' in let a = t.to_mark m.unit.0 m.version m.at itself in omega arith)
          (λ u ne. let other = number-set_other recorded m.unit.0 m.at u ne in let a = t.recorded_to_mark u in omega arith);
    }

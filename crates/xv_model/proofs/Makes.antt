-- What the making of messages does to one unit: nothing, or one version more.
use Rattle.std.proofs.Common.{◌≡◌, ◌≢◌, ◌≤◌, ◌<◌, ◌⊎◌, inl, inr, ℕ, zero, suc, ◌+◌, Bool, true, false, List, length, set, refl, sym, ap, ◌∙◌, arith}
use Rattle.std.specs.Prelude.{◌==◌, if◌then◌else◌}
use Rattle.std.proofs.lemmas.Bool.{cases_Bool, cases_eq, eq-eqb, ne_eqb}
use Rattle.std.proofs.lemmas.List.{get_or-set_same, get_or-set_other, length-set}
use Rattle.xv_model.specs.View.{Outbox, UnitHead, number}
use Rattle.xv_model.specs.Effect.{made, made_run}
use Rattle.xv_model.specs.Outstanding.{Bag, count, is_message}
use Rattle.xv_model.proofs.Bags.{new_message, count-made, is_version-unit, is_version-number, is_message-version, is_message-at}

-- the messages of an outbox together with the rest
abbrev pub with_rest : Bag → Outbox → Bag
with_rest rest box test = count test box.messages + rest test

pub record MadeNone (rest : Bag) (box new : Outbox) (unit : ℕ) : Type 0 where
  pub issued : number new.issued unit ≡ number box.issued unit
  pub first : number new.first unit ≡ number box.first unit
  pub messages : (version at : ℕ) → 0 < with_rest rest new (is_message unit version at) → 0 < with_rest rest box (is_message unit version at)

pub record MadeOne (rest : Bag) (box new : Outbox) (unit at : ℕ) : Type 0 where
  pub issued : number new.issued unit ≡ number box.issued unit + 1
  pub first_now : number box.issued unit ≡ 0 → number new.first unit ≡ at
  pub first_kept : number box.issued unit ≢ 0 → number new.first unit ≡ number box.first unit
  pub messages : (version at' : ℕ) → 0 < with_rest rest new (is_message unit version at') → (0 < with_rest rest box (is_message unit version at')) ⊎ ((version ≡ number box.issued unit + 1) × (at' ≡ at))

-- a positive count after a message was made is that of before, or of the new message
made-positive : (rest : Bag) (box : Outbox) (unit at : ℕ) (test : UnitHead → Bool) → 0 < with_rest rest (made box unit at) test → (0 < with_rest rest box test) ⊎ (test (new_message box unit at) ≡ true)
made-positive rest box unit at test h = elim (cases_Bool (test (new_message box unit at))) [
  | inl e ↦ inr e
  | inr e ↦
      let c = count-made test box unit at in
      let d : with_rest rest (made box unit at) test ≡ with_rest rest box test + 0 = omega (arith, rw e at c) in
      inl (omega (arith, d, h))
]

new-unit : (box : Outbox) (unit at u version a : ℕ) → is_message u version a (new_message box unit at) ≡ true → unit ≡ u
new-unit box unit at u version a e = is_version-unit u version (new_message box unit at) (is_message-version u version a (new_message box unit at) e)

new-version : (box : Outbox) (unit at u version a : ℕ) → is_message u version a (new_message box unit at) ≡ true → number box.issued unit + 1 ≡ version
new-version box unit at u version a e = is_version-number u version (new_message box unit at) (is_message-version u version a (new_message box unit at) e)

new-at : (box : Outbox) (unit at u version a : ℕ) → is_message u version a (new_message box unit at) ≡ true → at ≡ a
new-at box unit at u version a e = is_message-at u version a (new_message box unit at) e

-- the first `at` after a message
first_by : (b : Bool) (first : List ℕ) (unit at u : ℕ) → u ≢ unit → number (if b then set first unit at else first) u ≡ number first u
first_by true first unit at u n = get_or-set_other first unit u at 0 n
first_by false first unit at u n = refl

first_by-now : (issued : ℕ) (first : List ℕ) (unit at : ℕ) → unit < length first → issued ≡ 0 → number (if issued == 0 then set first unit at else first) unit ≡ at
first_by-now issued first unit at l e = rw (eq-eqb issued 0 e) (get_or-set_same first unit at 0 l)

first_by-kept : (issued : ℕ) (first : List ℕ) (unit at : ℕ) → issued ≢ 0 → number (if issued == 0 then set first unit at else first) unit ≡ number first unit
first_by-kept issued first unit at e = rw (ne_eqb issued 0 e) refl

first_by-length : (b : Bool) (first : List ℕ) (unit at : ℕ) → length (if b then set first unit at else first) ≡ length first
first_by-length true first unit at = length-set first unit at
first_by-length false first unit at = refl

pub made-other : (rest : Bag) (box : Outbox) (unit at u : ℕ) → u ≢ unit → MadeNone rest box (made box unit at) u
made-other rest box unit at u n = record {
  issued = get_or-set_other box.issued unit u (number box.issued unit + 1) 0 n;
  first = first_by (number box.issued unit == 0) box.first unit at u n;
  messages = λ version a h. elim (made-positive rest box unit at (is_message u version a) h) [
    | inl e ↦ e
    | inr e ↦ absurd (n (sym (new-unit box unit at u version a e)))
  ];
}

pub made-one : (rest : Bag) (box : Outbox) (unit at : ℕ) → unit < length box.issued → unit < length box.first → MadeOne rest box (made box unit at) unit at
made-one rest box unit at l m = record {
  issued = get_or-set_same box.issued unit (number box.issued unit + 1) 0 l;
  first_now = λ e. first_by-now (number box.issued unit) box.first unit at m e;
  first_kept = λ e. first_by-kept (number box.issued unit) box.first unit at e;
  messages = λ version a h. elim (made-positive rest box unit at (is_message unit version a) h) [
    | inl e ↦ inl e
    | inr e ↦ inr (sym (new-version box unit at unit version a e), sym (new-at box unit at unit version a e))
  ];
}

-- one after another
none_none : (rest : Bag) (a b c : Outbox) (u : ℕ) → MadeNone rest a b u → MadeNone rest b c u → MadeNone rest a c u
none_none rest a b c u p q = record {
  issued = q.issued ∙ p.issued;
  first = q.first ∙ p.first;
  messages = λ version at h. p.messages version at (q.messages version at h);
}

one_none : (rest : Bag) (a b c : Outbox) (u at : ℕ) → MadeOne rest a b u at → MadeNone rest b c u → MadeOne rest a c u at
one_none rest a b c u at p q = record {
  issued = q.issued ∙ p.issued;
  first_now = λ e. q.first ∙ p.first_now e;
  first_kept = λ e. q.first ∙ p.first_kept e;
  messages = λ version a' h. p.messages version a' (q.messages version a' h);
}

none_one : (rest : Bag) (a b c : Outbox) (u at : ℕ) → MadeNone rest a b u → MadeOne rest b c u at → MadeOne rest a c u at
none_one rest a b c u at p q = record {
  issued = q.issued ∙ ap (λ (n : ℕ). n + 1) p.issued;
  first_now = λ e. q.first_now (p.issued ∙ e);
  first_kept = λ n. q.first_kept (λ e. n (sym p.issued ∙ e)) ∙ p.first;
  messages = λ version a' h. elim (q.messages version a' h) [
    | inl e ↦ inl (p.messages version a' e)
    | inr e ↦ inr (e.0 ∙ ap (λ (n : ℕ). n + 1) p.issued, e.1)
  ];
}

run-lengths : (box : Outbox) (unit at n : ℕ) → (length (made_run box unit at n).issued ≡ length box.issued) × (length (made_run box unit at n).first ≡ length box.first)
run-lengths box unit at zero = (refl, refl)
run-lengths box unit at (suc n) =
    let before = made_run box unit at n in
    let h = run-lengths box unit at n in
    (length-set before.issued (unit + n) (number before.issued (unit + n) + 1) ∙ h.0, first_by-length (number before.issued (unit + n) == 0) before.first (unit + n) at ∙ h.1)

pub run-other : (rest : Bag) (box : Outbox) (unit at n u : ℕ) → (u < unit) ⊎ (unit + n ≤ u) → MadeNone rest box (made_run box unit at n) u
run-other rest box unit at zero u h = record { issued = refl; first = refl; messages = λ version a k. k }
run-other rest box unit at (suc n) u h =
    let before = made_run box unit at n in
    let other : u ≢ unit + n = elim h [ inl e ↦ omega arith | inr e ↦ omega arith ] in
    none_none rest box before (made before (unit + n) at) u (run-other rest box unit at n u (elim h [ inl e ↦ inl e | inr e ↦ inr (omega arith) ])) (made-other rest before (unit + n) at u other)

pub run-one : (rest : Bag) (box : Outbox) (unit at n u : ℕ) → unit ≤ u → u < unit + n → unit + n ≤ length box.issued → unit + n ≤ length box.first → MadeOne rest box (made_run box unit at n) u at
run-one rest box unit at zero u a b c d = absurd (omega arith)
run-one rest box unit at (suc n) u a b c d =
    let before = made_run box unit at n in
    let lengths = run-lengths box unit at n in
    elim (cases_eq u (unit + n)) [
      | inl e ↦ rw e (none_one rest box before (made before (unit + n) at) (unit + n) at (run-other rest box unit at n (unit + n) (inr (omega arith)))
          (made-one rest before (unit + n) at (omega (arith, lengths.0)) (omega (arith, lengths.1))))
      | inr e ↦ one_none rest box before (made before (unit + n) at) u at (run-one rest box unit at n u a (omega (arith, e)) (omega arith) (omega arith)) (made-other rest before (unit + n) at u e)
    ]

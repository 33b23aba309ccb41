-- For each unit exactly the versions above the one applied, up to the one issued, are outstanding, each once: what
-- making and applying messages does to that.
use Rattle.std.specs.Prelude.{◌≡◌, ◌≢◌, ◌≤◌, ◌<◌, ℕ, zero, suc, ◌+◌, Bool, List, length, set, if◌then◌else◌}
use Rattle.std.proofs.Common.{arith, refl, ap, sym, subst, ◌∙◌, inl, inr}
use Rattle.std.proofs.lemmas.Bool.{cases_Bool, cases_eq}
use Rattle.std.proofs.lemmas.List.{get_or-set_same, get_or-set_other}
use Rattle.xv_model.specs.View.{Outbox, UnitHead, number}
use Rattle.xv_model.specs.Effect.{made, made_run}
use Rattle.xv_model.specs.Outstanding.{Bag, count, is_version}
use Rattle.xv_model.specs.Invariant.{EachVersionOnce}
use Rattle.xv_model.proofs.Bags.{new_message, count-made, is_version-unit, is_version-number, is_version-from, length-issued-run}

-- a set number
pub number-set_same : (ns : List ℕ) (unit n : ℕ) → unit < length ns → number (set ns unit n) unit ≡ n
number-set_same ns unit n h = get_or-set_same ns unit n 0 h

pub number-set_other : (ns : List ℕ) (unit n u : ℕ) → u ≢ unit → number (set ns unit n) u ≡ number ns u
number-set_other ns unit n u h = get_or-set_other ns unit u n 0 h

-- whether one message is a version: it counts once, or not at all
abbrev pub one : Bool → ℕ
one b = if b then 1 else 0

pub one-version : (unit version : ℕ) (m : UnitHead) → m.unit.0 ≡ unit → m.version ≡ version → one (is_version unit version m) ≡ 1
one-version unit version m e f = ap one (is_version-from unit version m e f)

pub no_version-unit : (unit version : ℕ) (m : UnitHead) → (m.unit.0 ≢ unit) → one (is_version unit version m) ≡ 0
no_version-unit unit version m ne = elim (cases_Bool (is_version unit version m)) [ inl e ↦ absurd (ne (is_version-unit unit version m e)) | inr e ↦ ap one e ]

pub no_version-number : (unit version : ℕ) (m : UnitHead) → (m.version ≢ version) → one (is_version unit version m) ≡ 0
no_version-number unit version m ne = elim (cases_Bool (is_version unit version m)) [ inl e ↦ absurd (ne (is_version-number unit version m e)) | inr e ↦ ap one e ]

-- what holds of one unit, and of each other one
pub by_unit : (P : ℕ → Type 0) (unit : ℕ) → P unit → ((u : ℕ) → u ≢ unit → P u) → (u : ℕ) → P u
by_unit P unit same other u = elim (cases_eq u unit) [ inl e ↦ subst P (sym e) same | inr ne ↦ other u ne ]

-- what making one message does
made-once-same : (bag more : Bag) (issued applied : List ℕ) (m : UnitHead) → m.version ≡ number issued m.unit.0 + 1 → ((test : UnitHead → Bool) → more test ≡ bag test + one (test m)) → EachVersionOnce bag issued applied → (w : ℕ) → number applied m.unit.0 < w → w ≤ m.version → more (is_version m.unit.0 w) ≡ 1
made-once-same bag more issued applied m next adds p w a b = elim (cases_eq m.version w) [
  | inl e ↦ let k = p.none_to_come m.unit.0 w (omega arith) in let l = one-version m.unit.0 w m refl e in let n = adds (is_version m.unit.0 w) in omega arith
  | inr ne ↦ let k = p.once m.unit.0 w a (omega arith) in let l = no_version-number m.unit.0 w m ne in let n = adds (is_version m.unit.0 w) in omega arith
]

adds-other : (bag more : Bag) (m : UnitHead) → ((test : UnitHead → Bool) → more test ≡ bag test + one (test m)) → (u w : ℕ) → u ≢ m.unit.0 → more (is_version u w) ≡ bag (is_version u w)
adds-other bag more m adds u w ne = let k = adds (is_version u w) in let l = no_version-unit u w m (λ e. ne (sym e)) in omega arith

adds-number : (bag more : Bag) (m : UnitHead) → ((test : UnitHead → Bool) → more test ≡ bag test + one (test m)) → (u w : ℕ) → m.version ≢ w → more (is_version u w) ≡ bag (is_version u w)
adds-number bag more m adds u w ne = let k = adds (is_version u w) in let l = no_version-number u w m ne in omega arith

pub versions-made : (bag more : Bag) (issued applied : List ℕ) (m : UnitHead) → m.unit.0 < length issued → m.version ≡ number issued m.unit.0 + 1 → ((test : UnitHead → Bool) → more test ≡ bag test + one (test m)) → EachVersionOnce bag issued applied → EachVersionOnce more (set issued m.unit.0 m.version) applied
versions-made bag more issued applied m there next adds p =
    let same : number (set issued m.unit.0 m.version) m.unit.0 ≡ m.version = number-set_same issued m.unit.0 m.version there in
    let above = p.in_order m.unit.0 in
    record {
      in_order = by_unit (λ u. number applied u ≤ number (set issued m.unit.0 m.version) u) m.unit.0 (omega arith)
          (λ u ne. rw get_or-set_other (p.in_order u));
      once = by_unit (λ u. (w : ℕ) → number applied u < w → w ≤ number (set issued m.unit.0 m.version) u → more (is_version u w) ≡ 1) m.unit.0
          (λ w a b. made-once-same bag more issued applied m next adds p w a (omega arith))
          (λ u ne w a b. adds-other bag more m adds u w ne ∙ p.once u w a (rw (number-set_other issued m.unit.0 m.version u ne) at b));
      none_applied = by_unit (λ u. (w : ℕ) → w ≤ number applied u → more (is_version u w) ≡ 0) m.unit.0
          (λ w a. let ne : m.version ≢ w = omega arith in adds-number bag more m adds m.unit.0 w ne ∙ p.none_applied m.unit.0 w a)
          (λ u ne w a. adds-other bag more m adds u w ne ∙ p.none_applied u w a);
      none_to_come = by_unit (λ u. (w : ℕ) → number (set issued m.unit.0 m.version) u < w → more (is_version u w) ≡ 0) m.unit.0
          (λ w a. let ne : m.version ≢ w = omega arith in adds-number bag more m adds m.unit.0 w ne ∙ p.none_to_come m.unit.0 w (omega arith))
          (λ u ne w a. adds-other bag more m adds u w ne ∙ p.none_to_come u w (rw (number-set_other issued m.unit.0 m.version u ne) at a));
    }

-- the bag of an outbox and of what is on the way
abbrev pub box_bag : Outbox → Bag → Bag
box_bag box way test = count test box.messages + way test

pub box_bag-made : (box : Outbox) (way : Bag) (unit at : ℕ) (test : UnitHead → Bool) → box_bag (made box unit at) way test ≡ box_bag box way test + one (test (new_message box unit at))
box_bag-made box way unit at test = let k = count-made test box unit at in omega arith

pub versions-made-box : (box : Outbox) (way : Bag) (applied : List ℕ) (unit at : ℕ) → unit < length box.issued → EachVersionOnce (box_bag box way) box.issued applied → EachVersionOnce (box_bag (made box unit at) way) (made box unit at).issued applied
versions-made-box box way applied unit at there p = versions-made (box_bag box way) (box_bag (made box unit at) way) box.issued applied (new_message box unit at) there refl (box_bag-made box way unit at) p

pub versions-made_run : (box : Outbox) (way : Bag) (applied : List ℕ) (unit at n : ℕ) → unit + n ≤ length box.issued → EachVersionOnce (box_bag box way) box.issued applied → EachVersionOnce (box_bag (made_run box unit at n) way) (made_run box unit at n).issued applied
versions-made_run box way applied unit at zero there p = p
versions-made_run box way applied unit at (suc n) there p =
    versions-made-box (made_run box unit at n) way applied (unit + n) at (let k = length-issued-run box unit at n in omega arith)
    (versions-made_run box way applied unit at n (omega arith) p)

-- what writing the message of a unit's next version does
pub versions-applied : (bag less : Bag) (issued applied : List ℕ) (m : UnitHead) → m.unit.0 < length applied → m.version ≡ number applied m.unit.0 + 1 → m.version ≤ number issued m.unit.0 → ((test : UnitHead → Bool) → bag test ≡ one (test m) + less test) → EachVersionOnce bag issued applied → EachVersionOnce less issued (set applied m.unit.0 m.version)
versions-applied bag less issued applied m there next within takes p =
    let same : number (set applied m.unit.0 m.version) m.unit.0 ≡ m.version = number-set_same applied m.unit.0 m.version there in
    record {
      in_order = by_unit (λ u. number (set applied m.unit.0 m.version) u ≤ number issued u) m.unit.0 (omega arith)
          (λ u ne. rw get_or-set_other (p.in_order u));
      once = by_unit (λ u. (w : ℕ) → number (set applied m.unit.0 m.version) u < w → w ≤ number issued u → less (is_version u w) ≡ 1) m.unit.0
          (λ w a b. let k = takes (is_version m.unit.0 w) in let l = no_version-number m.unit.0 w m (omega arith) in let n = p.once m.unit.0 w (omega arith) b in omega arith)
          (λ u ne w a b. let k = takes (is_version u w) in let l = no_version-unit u w m (λ e. ne (sym e)) in let n = p.once u w (rw (number-set_other applied m.unit.0 m.version u ne) at a) b in omega arith);
      none_applied = by_unit (λ u. (w : ℕ) → w ≤ number (set applied m.unit.0 m.version) u → less (is_version u w) ≡ 0) m.unit.0
          (λ w a. elim (cases_eq m.version w) [
            | inl e ↦ let k = takes (is_version m.unit.0 w) in let l = one-version m.unit.0 w m refl e in let n = p.once m.unit.0 w (omega arith) (omega arith) in omega arith
            | inr ne ↦ let k = takes (is_version m.unit.0 w) in let n = p.none_applied m.unit.0 w (omega arith) in omega arith
          ])
          (λ u ne w a. let k = takes (is_version u w) in let n = p.none_applied u w (rw (number-set_other applied m.unit.0 m.version u ne) at a) in omega arith);
      none_to_come = λ u w a. let k = takes (is_version u w) in let n = p.none_to_come u w a in omega arith;
    }

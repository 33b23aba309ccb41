-- How many members a set has, and which is the least.
use Rattle.std.proofs.Common.{◌≡◌, ℕ, ◌+◌, ◌<◌, ◌≤◌, Bool, true, false, cond, List, length, set, replicate, Some, None, nat_lt, refl, sym, ap, ◌∙◌, arith, rules, inl, inr}
use Rattle.std.proofs.lemmas.Bool.{false≢true, cases_lt}
use Rattle.std.proofs.lemmas.List.{same_lists, length-replicate, get_or-replicate, get_or_past, get_or_default}
use Rattle.std.proofs.lemmas.List.Sums.{sum_by-set, count_by-le-length, position_or_len_is}
use Rattle.std.proofs.lemmas.List.Folds.{sum_by-replicate}
use Rattle.std.specs.List.{position_or_len}
use Rattle.xv_dirty.specs.Pages.{member, members, least}
use Rattle.xv_dirty.specs.Levels.{IsFirst, IsEmpty}

abbrev one_if : Bool → ℕ
one_if b = cond b 1 0

pub member_in : (set : List Bool) (i : ℕ) → member set i ≡ true → i < length set
member_in set i there = elim (cases_lt i (length set)) [
  | inl below ↦ below
  | inr past ↦ absurd (false≢true (sym (get_or_past set i false past) ∙ there))
]

changed_count : (s : List Bool) (i : ℕ) (b : Bool) → i < length s → members (set s i b) + one_if (member s i) ≡ members s + one_if b
changed_count s i b h = sum_by-set one_if s i b false h

pub one_more : (s : List Bool) (i : ℕ) → i < length s → member s i ≡ false → members (set s i true) ≡ members s + 1
one_more s i h absent = omega (arith, changed_count s i true h, ap one_if absent)

pub one_less : (s : List Bool) (i : ℕ) → i < length s → member s i ≡ true → members (set s i false) + 1 ≡ members s
one_less s i h there = omega (arith, changed_count s i false h, ap one_if there)

pub at_most_all : (s : List Bool) → members s ≤ length s
at_most_all s = count_by-le-length (λ b. b) s

pub all_members : (n : ℕ) → members (replicate n true) ≡ n
all_members n = omega (arith, sum_by-replicate one_if n true)

pub no_members : (n : ℕ) → members (replicate n false) ≡ 0
no_members n = omega (arith, sum_by-replicate one_if n false)

bool_cases : (b : Bool) → (b ≡ true → b ≡ false) → b ≡ false
bool_cases true f = f refl
bool_cases false f = refl

-- a set that counts no member is the empty one
pub empty_is : (s : List Bool) → members s ≡ 0 → s ≡ replicate (length s) false
empty_is s none = same_lists _ _ (sym (length-replicate (length s) false)) (λ i d h.
    get_or_default s i d false h
    ∙ bool_cases (member s i) (λ there. absurd (omega (arith, one_less s i h there, none)))
    ∙ sym (get_or-replicate (length s) i false d h))

pub least-first : (s : List Bool) (i : ℕ) → IsFirst s i → least s ≡ Some i
least-first s i f =
    let below = member_in s i f.there in
    let at : position_or_len (λ (b : Bool). b) s ≡ i = position_or_len_is (λ (b : Bool). b) s i false (omega (arith, below)) (λ k h. f.first k h) (λ h. f.there) in
    let inside : nat_lt i (length s) ≡ true = search (rules, below) in
    ap (λ (k : ℕ). cond (nat_lt k (length s)) (Some k) None) at ∙ ap (λ (b : Bool). cond b (Some i) None) inside

pub least-none : (s : List Bool) → IsEmpty s → least s ≡ None
least-none s e =
    let at : position_or_len (λ (b : Bool). b) s ≡ length s = position_or_len_is (λ (b : Bool). b) s (length s) false (omega arith) (λ k h. e.none k) (λ h. absurd (omega arith)) in
    let outside : nat_lt (length s) (length s) ≡ false = search rules in
    ap (λ (k : ℕ). cond (nat_lt k (length s)) (Some k) None) at ∙ ap (λ (b : Bool). cond b (Some (length s)) None) outside

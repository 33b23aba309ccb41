-- Sets of pages as the machine has them, and as the sets of the code tell them.
use Rattle.std.specs.Prelude.{◌≡◌, ℕ, suc, nat_eq, ◌+◌, cond, Bool, true, false, List, [], ◌∷◌, length, count_by, Some, None}
use Rattle.std.proofs.Common.{refl, sym, ap, ◌∙◌, arith}
use Rattle.std.proofs.lemmas.Bool.{ne_eqb, eqb-true, lt-ltb}
use Rattle.std.proofs.lemmas.List.Recursion.{is_count_by}
use Rattle.std.specs.List.{position, position_or_len}
use Rattle.xv_model.specs.View.{members, is_empty_set, least}
use Rattle.xv_model.proofs.GoesOn.{least-lt}

one_more : (b : Bool) (s : List Bool) → members (b ∷ s) ≡ cond b (1 + members s) (members s)
one_more true s = omega arith
one_more false s = refl

-- how many members there are, and whether there is none
pub members_counted : (s : List Bool) → members s ≡ count_by (λ b. b) s
members_counted s = is_count_by members (λ b. b) refl one_more s

none_there : (s : List Bool) → nat_eq (members s) 0 ≡ is_empty_set s
none_there [] = refl
none_there (true ∷ s) = ne_eqb (suc (members s)) 0 (λ zero_is. omega arith)
none_there (false ∷ s) = none_there s

pub none_counted : (s : List Bool) → nat_eq (count_by (λ b. b) s) 0 ≡ is_empty_set s
none_counted s = ap (λ (n : ℕ). nat_eq n 0) (sym (members_counted s)) ∙ none_there s

-- where there is a member, the least is the first
first_is : (s : List Bool) → is_empty_set s ≡ false → position_or_len (λ b. b) s ≡ least s
first_is [] some = absurd (cc)
first_is (true ∷ s) some = refl
first_is (false ∷ s) some = let h = first_is s some in omega arith

pub least_found : (s : List Bool) → is_empty_set s ≡ false → position (λ b. b) s ≡ Some (least s)
least_found s some =
    let first = first_is s some in
    ap (λ (b : Bool). cond b (Some (position_or_len (λ b. b) s)) None) (lt-ltb (position_or_len (λ b. b) s) (length s) (omega (arith, least-lt s some)))
    ∙ ap (λ (n : ℕ). Some n) first

pub none_members : (s : List Bool) → is_empty_set s ≡ true → count_by (λ b. b) s ≡ 0
none_members s none = eqb-true (count_by (λ b. b) s) 0 (none_counted s ∙ none)

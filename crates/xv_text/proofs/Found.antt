-- A word that is found is known by its spelling alone.
use Rattle.std.proofs.Common.{◌≡◌, ℕ, Bool, true, List, [], ◌∷◌, Some, sym, subst, inl, inr}
use Rattle.std.specs.List.{find}
use Rattle.std.specs.Cmp.Lexicographic.{same_text}
use Rattle.std.proofs.lemmas.Bool.{cases_Bool}
use Rattle.xv_text.specs.Words.{is_spelled}

-- what is found passes the test
find_passes : {X : Type 0} (p : X → Bool) (xs : List X) (x : X) → find p xs ≡ Some x → p x ≡ true
find_passes p [] x h = absurd (cc)
find_passes {X = X} p (y ∷ ys) x h = elim (cases_Bool (p y)) [
  | inl passes ↦
      let found : Some y ≡ Some x = rw passes at h in
      let same : y ≡ x = cc in
      let P : X → Type 0 = λ z. p z ≡ true in
      subst P same passes
  | inr fails ↦ let later : find p ys ≡ Some x = rw fails at h in find_passes p ys x later
]

pub found_spelled : {X : Type 0} (spelling : X → List ℕ) (words : List X) (field : List ℕ) (word : X) → find (λ w. is_spelled (spelling w) field) words ≡ Some word → field ≡ spelling word
found_spelled spelling words field word h = sym (same_text (spelling word) field (sym (find_passes (λ w. is_spelled (spelling w) field) words word h)))

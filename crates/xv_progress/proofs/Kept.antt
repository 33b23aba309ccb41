-- Each step keeps the rule of the words.
use Rattle.std.proofs.Common.{◌≡◌, ◌≢◌, ◌⊎◌, ◌^◌, ◌<◌, ◌≤◌, ℕ, true, false, zero, suc, max, List, [], ◌∷◌, ◌++◌, length, get_or, set, refl, sym, ◌∙◌, ap, subst, inl, inr, ⊎_elim, le_refl, le_trans, zero-le, arith}
use Rattle.std.proofs.lemmas.List.{get_or-set_same, get_or-set_other, set-get_or}
use Rattle.std.proofs.Math.ListN.{length-set}
use Rattle.std.proofs.lemmas.Bool.{false≢true}
use mathlib.Core.Option.{some, none, some-injective, some-ne-none}
use mathlib.Core.Logic.{dite}
use native.Mathlib.Decide.{dec_le, ℕ_discrete}
use lib.ListN.{get_elem?}
use Rattle.atomic_table.specs.Table.{Allows, Splits, Joins, State, keeps, step}
use Rattle.atomic_table.proofs.Lists.{at_set, at_snoc, at_longer, set_here, set_else, set_again}
use Rattle.xv_progress.specs.declared.words.View.{View}
use Rattle.xv_progress.specs.Words.{HasWritten, IsPublished, IsSound, spent_view, greater_each, greater_view}
use Rattle.xv_progress.specs.Steps.{with_number, Raised, Loaded, Retired}

pub within : {A : Type 0} (l : List A) (i : ℕ) (a : A) → get_elem? l i ≡ some a → i < length l
within [] i a e = absurd (some-ne-none a (sym e))
within (x ∷ xs) zero a e = omega arith
within (x ∷ xs) (suc i) a e = let h : i < length xs = within xs i a e in omega arith

-- what is published stays so where one view changes, if the view after backs what the one before did
pub published_set : (views : List View) (id : ℕ) (v w : View) (word n : ℕ) → get_elem? views id ≡ some v → (HasWritten v word n → (n ≡ 0) ⊎ HasWritten w word n) → IsPublished views word n
    → IsPublished (set views id w) word n
published_set views id v w word n at carries (inl at_zero) = inl at_zero
published_set views id v w word n at carries (inr (pass, u, there, has)) = dite (ℕ_discrete pass id)
    (λ here. let same : u ≡ v = some-injective u v (sym there ∙ (ap (get_elem? views) here ∙ at)) in
    ⊎_elim (λ (at_zero : n ≡ 0). inl at_zero) (λ (mine : HasWritten w word n). inr (id, w, set_here views id w (within views id v at), mine)) (carries (subst (λ (z : View). HasWritten z word n) same has)))
    (λ apart. inr (pass, u, set_else views id pass w apart ∙ there, has))

-- no word falls, and no view is above its word
pub sound_step : (words words' : List ℕ) (views : List View) (id : ℕ) (w : View) → IsSound words views → length words' ≡ 4 → ((word : ℕ) → get_or words word 0 ≤ get_or words' word 0) → ((word : ℕ) → get_or words' word 0 < 2 ^ 62)
    → ((word : ℕ) → get_or w.seen word 0 ≤ get_or words' word 0) → ((word : ℕ) → IsPublished (set views id w) word (get_or words' word 0)) → IsSound words' (set views id w)
sound_step words words' views id w sound four rises fits low published = record {
  four = four;
  fits = fits;
  published = published;
  seen = λ pass word u at. ⊎_elim (λ (t : (pass ≡ id) × (w ≡ u)). subst (λ (z : View). get_or z.seen word 0 ≤ get_or words' word 0) t.1 (low word))
      (λ (t : (pass ≢ id) × (get_elem? views pass ≡ some u)). le_trans (sound.seen pass word u t.1) (rises word)) (at_set views id pass w u at);
}

-- a step that changes no word and no number that backs one
pub sound_view : (words : List ℕ) (views : List View) (id : ℕ) (v w : View) → IsSound words views → get_elem? views id ≡ some v → ((word : ℕ) → get_or w.seen word 0 ≤ get_or words word 0)
    → ((word : ℕ) → HasWritten v word (get_or words word 0) → (get_or words word 0 ≡ 0) ⊎ HasWritten w word (get_or words word 0)) → IsSound words (set views id w)
sound_view words views id v w sound at low carries =
    sound_step words words views id w sound sound.four (λ word. le_refl _) sound.fits low (λ word. published_set views id v w word (get_or words word 0) at (carries word) (sound.published word))

raise_word : (words : List ℕ) (views : List View) (id : ℕ) (v : View) (i k : ℕ) → IsSound words views → get_elem? views id ≡ some v → v.writes ≡ true → i < 4 → i < length v.seen → get_or v.seen i 0 ≤ k
    → IsPublished (set views id (with_number v i k)) i (max (get_or words i 0) k)
raise_word words views id v i k sound at writes word_in long low = dite (dec_le (get_or words i 0) k)
    (λ above. let top : k ≡ max (get_or words i 0) k = omega arith in
    inr (id, with_number v i k, set_here views id (with_number v i k) (within views id v at), (writes, get_or-set_same v.seen i k 0 long ∙ top)))
    (λ below. let top : get_or words i 0 ≡ max (get_or words i 0) k = omega arith in
    subst (IsPublished (set views id (with_number v i k)) i) top
    (published_set views id v (with_number v i k) i (get_or words i 0) at (λ has. let is : get_or v.seen i 0 ≡ get_or words i 0 = has.1 in absurd (omega arith)) (sound.published i)))

pub sound_raise : (words : List ℕ) (views : List View) (id : ℕ) (v : View) (i k : ℕ) → IsSound words views → get_elem? views id ≡ some v → v.writes ≡ true → i < 4 → length v.seen ≡ 4 → get_or v.seen i 0 ≤ k → k < 2 ^ 62
    → IsSound (set words i (max (get_or words i 0) k)) (set views id (with_number v i k))
sound_raise words views id v i k sound at writes word_in four low small =
    let n : ℕ = get_or words i 0 in
    let words' : List ℕ = set words i (max n k) in
    let w : View = with_number v i k in
    let long : i < length v.seen = omega arith in
    let wide : i < length words = let h = sound.four in omega arith in
    let here : get_or words' i 0 ≡ max n k = get_or-set_same words i (max n k) 0 wide in
    let there : (j : ℕ) → j ≢ i → get_or words' j 0 ≡ get_or words j 0 = λ j ne. get_or-set_other words i j (max n k) 0 ne in
    let seen_there : (j : ℕ) → j ≢ i → get_or w.seen j 0 ≡ get_or v.seen j 0 = λ j ne. get_or-set_other v.seen i j k 0 ne in
    let n_small : n < 2 ^ 62 = sound.fits i in
    let at_each : (P : ℕ → Type 0) → P i → ((j : ℕ) → j ≢ i → P j) → (j : ℕ) → P j = λ P hit miss j. dite (ℕ_discrete j i) (λ e. subst P (sym e) hit) (miss j) in
    sound_step words words' views id w sound (length-set words i (max n k) ∙ sound.four)
    (at_each (λ j. get_or words j 0 ≤ get_or words' j 0) (rw here (omega arith)) (λ j ne. rw (there j ne) (le_refl _)))
    (at_each (λ j. get_or words' j 0 < 2 ^ 62) (rw here (omega arith)) (λ j ne. rw (there j ne) (sound.fits j)))
    (at_each (λ j. get_or w.seen j 0 ≤ get_or words' j 0) (rw (here, get_or-set_same v.seen i k 0 long) (omega arith)) (λ j ne. rw (there j ne, seen_there j ne) (sound.seen id j v at)))
    (at_each (λ j. IsPublished (set views id w) j (get_or words' j 0)) (rw here (raise_word words views id v i k sound at writes word_in long low))
    (λ j ne. rw (there j ne) (published_set views id v w j (get_or words j 0) at (λ has. inr (has.0, seen_there j ne ∙ has.1)) (sound.published j))))

pub raises : (slots id i k : ℕ) (v : View) → v.writes ≡ true → i < 4 → length v.seen ≡ 4 → get_or v.seen i 0 ≤ k → k < 2 ^ 62
    → Allows (λ (s : State (Unit {0}) View). IsSound s.words s.views) slots id (v, []) i (λ n. max n k) (Raised (step slots i k 0 none) (v, []))
raises slots id i k v writes word_in four low small s sound homes at full = (with_number v i k, keeps, tt, sound_raise s.words s.views id v i k sound at writes word_in four low small, refl)

pub loads : (slots id i : ℕ) (v : View) → v.writes ≡ false → i < 4 → length v.seen ≡ 4
    → Allows (λ (s : State (Unit {0}) View). IsSound s.words s.views) slots id (v, []) i (λ n. n) (Loaded (step slots i 0 0 none) (v, []))
loads slots id i v reads word_in four s sound homes at full =
    let n : ℕ = get_or s.words i 0 in
    let w : View = with_number v i n in
    let long : i < length v.seen = omega arith in
    let low : (j : ℕ) → get_or w.seen j 0 ≤ get_or s.words j 0 = λ j. dite (ℕ_discrete j i)
    (λ e. subst (λ (j : ℕ). get_or w.seen j 0 ≤ get_or s.words j 0) (sym e) (rw (get_or-set_same v.seen i n 0 long) (le_refl n)))
    (λ ne. rw (get_or-set_other v.seen i j n 0 ne) (sound.seen id j v at)) in
    let kept : IsSound s.words (set s.views id w) = sound_view s.words s.views id v w sound at low (λ j has. absurd (false≢true (sym reads ∙ has.0))) in (
      w,
      keeps,
      tt,
      rw (set-get_or s.words i 0) kept,
      record { takes = refl; rises = sound.seen id i v at; fits = sound.fits i },
    )

-- a pass that has four zeros stops to write
pub retires : (slots id : ℕ) (v : View) → ((i : ℕ) → get_or v.seen i 0 ≡ 0)
    → Allows (λ (s : State (Unit {0}) View). IsSound s.words s.views) slots id (v, []) 0 (λ n. n) (Retired (step slots 0 0 0 none) (v, []))
retires slots id v zeros s sound homes at full =
    let w : View = record v { writes = false } in
    let kept : IsSound s.words (set s.views id w) = sound_view s.words s.views id v w sound at (λ j. sound.seen id j v at) (λ j has. inl (sym has.1 ∙ zeros j)) in
    (w, keeps, tt, rw (set-get_or s.words 0 0) kept, refl)

published_longer : (views : List View) (v : View) (word n : ℕ) → IsPublished views word n → IsPublished (views ++ v ∷ []) word n
published_longer views v word n (inl at_zero) = inl at_zero
published_longer views v word n (inr (pass, u, there, has)) = inr (pass, u, at_longer views (v ∷ []) pass u there, has)

-- a copy of a pass has seen what it has
pub splits : (id : ℕ) (v : View) → Splits (λ (s : State (Unit {0}) View). IsSound s.words s.views) id v v v
splits id v s sound at = rw (set_again s.views id v at) record {
  four = sound.four;
  fits = sound.fits;
  published = λ word. published_longer s.views v word (get_or s.words word 0) (sound.published word);
  seen = λ pass word u there. ⊎_elim (λ (t : get_elem? s.views pass ≡ some u). sound.seen pass word u t) (λ (same : v ≡ u). subst (λ (z : View). get_or z.seen word 0 ≤ get_or s.words word 0) same (sound.seen id word v at))
      (at_snoc s.views v u pass there);
}

pub get_or-greater_each : (xs ys : List ℕ) (i : ℕ) → get_or (greater_each xs ys) i 0 ≡ max (get_or xs i 0) (get_or ys i 0)
get_or-greater_each [] ys i = omega arith
get_or-greater_each (x ∷ xs) [] zero = omega arith
get_or-greater_each (x ∷ xs) [] (suc i) = omega arith
get_or-greater_each (x ∷ xs) (y ∷ ys) zero = refl
get_or-greater_each (x ∷ xs) (y ∷ ys) (suc i) = get_or-greater_each xs ys i

pub no_number : (i : ℕ) → get_or spent_view.seen i 0 ≡ 0
no_number zero = refl
no_number (suc zero) = refl
no_number (suc (suc zero)) = refl
no_number (suc (suc (suc zero))) = refl
no_number (suc (suc (suc (suc i)))) = refl

-- of two passes that only read one takes the greater of each number
pub joins : (id other : ℕ) (v w : View) → v.writes ≡ false → w.writes ≡ false → Joins (λ (s : State (Unit {0}) View). IsSound s.words s.views) id v other w (greater_view v w) spent_view
joins id other v w v_reads w_reads s sound at apart there =
    let both : View = greater_view v w in
    let w_at : get_elem? s.views other ≡ some w = sym (set_else s.views id other both apart) ∙ there in
    let low : (j : ℕ) → get_or both.seen j 0 ≤ get_or s.words j 0 = λ j.
    let a = sound.seen id j v at in let b = sound.seen other j w w_at in rw (get_or-greater_each v.seen w.seen j) (omega arith) in
    let mid : IsSound s.words (set s.views id both) = sound_view s.words s.views id v both sound at low (λ j has. absurd (false≢true (sym v_reads ∙ has.0))) in
    sound_view s.words (set s.views id both) other w spent_view mid there (λ j. rw (no_number j) zero-le) (λ j has. absurd (false≢true (sym w_reads ∙ has.0)))

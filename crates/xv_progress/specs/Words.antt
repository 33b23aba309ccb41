-- Four words, which single steps change, and what each pass has seen of them.
use Rattle.std.specs.Prelude.{◌≡◌, ◌⊎◌, ◌^◌, ◌<◌, ◌≤◌, ℕ, true, false, List, [], ◌∷◌, length, max, slice_index}
use mathlib.Core.Option.{some}
use lib.ListN.{get_elem?}
use Rattle.xv_progress.specs.declared.words.View.{View}

-- a writing pass has this number of the word
abbrev pub HasWritten : View → ℕ → ℕ → Type 0
HasWritten v word n = (v.writes ≡ true) × (slice_index v.seen word ≡ n)

-- the number is 0 or that of a writing pass
abbrev pub IsPublished : List View → ℕ → ℕ → Type 0
IsPublished views word n = (n ≡ 0) ⊎ ((pass : ℕ) × (v : View) × (get_elem? views pass ≡ some v) × HasWritten v word n)

-- each word fits, is 0 or the number of a writing pass, and is not below what any pass has seen
pub record IsSound (words : List ℕ) (views : List View) : Type 0 where
  pub four : length words ≡ 4
  pub fits : (word : ℕ) → slice_index words word < 2 ^ 62
  pub published : (word : ℕ) → IsPublished views word (slice_index words word)
  pub seen : (pass word : ℕ) (v : View) → get_elem? views pass ≡ some v → slice_index v.seen word ≤ slice_index words word

-- the first pass writes, and has seen four zeros
abbrev pub first_view : View
first_view = record { writes = true; seen = 0 ∷ 0 ∷ 0 ∷ 0 ∷ [] }

-- a pass whose view another one took over
abbrev pub spent_view : View
spent_view = record { writes = false; seen = 0 ∷ 0 ∷ 0 ∷ 0 ∷ [] }

-- the greater at each place
abbrev pub greater_each : List ℕ → List ℕ → List ℕ
greater_each [] ys = ys
greater_each (x ∷ xs) [] = x ∷ xs
greater_each (x ∷ xs) (y ∷ ys) = max x y ∷ greater_each xs ys

abbrev pub greater_view : View → View → View
greater_view v w = record { writes = false; seen = greater_each v.seen w.seen }

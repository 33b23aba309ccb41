-- What is seen of a publisher and a reader.
use Rattle.std.specs.Prelude.{◌≡◌, Bool, List, [], ◌∷◌, ℕ}
use Rattle.atomic_table.specs.Seated.{TableId}
use Rattle.atomic_table.specs.Table.{Me}
use Rattle.xv_progress.specs.declared.numbers.Numbers.{Numbers}
use Rattle.xv_progress.specs.declared.words.View.{View}
use Rattle.xv_progress.specs.Numbers.{rest, IsFit}

-- the words that it belongs to, and the numbers that it last published or saw
pub record Known : Type 0 where
  pub belongs : TableId
  pub numbers : Numbers

-- the four words' numbers
abbrev pub four_of : Numbers → List ℕ
four_of n = n.history ∷ n.copied ∷ n.applied ∷ rest n ∷ []

-- the seat has just the view of these numbers, and they fit
pub record Knows (me : Me (Unit {0}) View) (writes : Bool) (n : Numbers) : Type 0 where
  pub view : me ≡ (record { writes = writes; seen = four_of n }, [])
  pub fit : IsFit n

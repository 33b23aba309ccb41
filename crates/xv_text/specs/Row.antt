-- What a row of fields says, and what is known of it.
use Rattle.std.specs.Prelude.{◌≡◌, ◌<◌, ◌^◌, ℕ, Bool, true, false, List, [], ◌∷◌, ◌++◌, Option, Some, None}
use Rattle.std.specs.List.{list_any}
use Rattle.xv_text.specs.declared.row.Kind.{Kind}
use Rattle.xv_text.specs.declared.row.Kind.TheVariants.{Number, Bytes}
use Rattle.xv_text.specs.Fields.{Values, number_at, number, hex_bytes, IsPattern}

-- bytes that may not be there
abbrev pub bytes_or_none : Option (List ℕ) → List ℕ
bytes_or_none None = []
bytes_or_none (Some bytes) = bytes

-- what is said with one field more
abbrev pub with_last : Kind → List ℕ → Values → Values
with_last Number field v = record { numbers = v.numbers ++ number field ∷ []; pattern = v.pattern }
with_last Bytes field v = record { numbers = v.numbers; pattern = hex_bytes field }

abbrev pub is_bytes : Kind → Bool
is_bytes Number = false
is_bytes Bytes = true

-- fields of these kinds say numbers below 2^32, and a pattern where one is of bytes
pub record IsRow (kinds : List Kind) (row : Values) : Type 0 where
  pub numbers_fit : (i : ℕ) → number_at row i < 2 ^ 32
  pub pattern : list_any is_bytes kinds ≡ true → IsPattern row.pattern

-- A text as lines, and a line as fields: taken apart, and put together.
use Rattle.std.specs.Prelude.{ℕ, ◌==◌, Bool, true, false, List, [], ◌∷◌, ◌++◌, map, if◌then◌else◌}
use Rattle.std.specs.List.{flat_map, list_any}

-- a byte put before the first of these items, where there is one
abbrev pub before_first : ℕ → List (List ℕ) → List (List ℕ)
before_first byte [] = []
before_first byte (item ∷ items) = (byte ∷ item) ∷ items

-- the lines that a line feed ends, each without it
abbrev pub whole_lines : List ℕ → List (List ℕ)
whole_lines [] = []
whole_lines (byte ∷ rest) = if byte == 10 then [] ∷ whole_lines rest else before_first byte (whole_lines rest)

-- whether bytes stand behind the last line feed
abbrev pub has_rest : List ℕ → Bool
has_rest [] = false
has_rest (byte ∷ rest) = if list_any (λ b. b == 10) (byte ∷ rest) then has_rest rest else true

-- the fields of a line: what stands between its spaces, at least one
abbrev pub fields : List ℕ → List (List ℕ)
fields [] = [] ∷ []
fields (byte ∷ rest) = if byte == 32 then [] ∷ fields rest else before_first byte (fields rest)

-- the lines of a text, each as its fields
abbrev pub lines_of : List ℕ → List (List (List ℕ))
lines_of text = map fields (whole_lines text)

-- a line of these fields, with its line feed; and a text of these lines
abbrev pub line : List (List ℕ) → List ℕ
line [] = 10 ∷ []
line (last ∷ []) = last ++ 10 ∷ []
line (field ∷ next ∷ more) = field ++ 32 ∷ line (next ∷ more)

abbrev pub text_of : List (List (List ℕ)) → List ℕ
text_of lines = flat_map line lines

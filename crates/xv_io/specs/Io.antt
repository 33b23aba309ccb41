-- What a read does to the bytes that are left, and what a write does to the bytes taken.
use Rattle.std.specs.Prelude.{◌≡◌, ◌↔◌, ℕ, ◌≤◌, List, [], ◌++◌, length, take, Option, None, Some, option_map, ⊤}

-- `bytes` were the first ones left, and the rest is left
abbrev pub GaveFirst : Option (List ℕ) → Option (List ℕ) → List ℕ → Type 0
GaveFirst old new bytes = old ≡ option_map (λ rest. bytes ++ rest) new

-- bytes moved from the front of those left to the end of those read
abbrev pub Moves : Option (List ℕ) → Option (List ℕ) → List ℕ → List ℕ → Type 0
Moves left rest old new = option_map (λ xs. old ++ xs) left ≡ option_map (λ xs. new ++ xs) rest

-- some bytes, at least n, were the first ones left, and the rest is left
abbrev pub GaveAtLeast : ℕ → Option (List ℕ) → Option (List ℕ) → Type 0
GaveAtLeast n old new = (bytes : List ℕ) × GaveFirst old new bytes × (n ≤ length bytes)

-- the same, at most n
abbrev pub GaveAtMost : ℕ → Option (List ℕ) → Option (List ℕ) → Type 0
GaveAtMost n old new = (bytes : List ℕ) × GaveFirst old new bytes × (length bytes ≤ n)

-- no bytes are left, where that is told
abbrev pub IsAtEnd : Option (List ℕ) → Type 0
IsAtEnd None = ⊤
IsAtEnd (Some xs) = xs ≡ []

-- a read that gave n bytes gave none exactly where none were left
abbrev pub EndsAtZero : Option (List ℕ) → ℕ → Type 0
EndsAtZero None n = ⊤
EndsAtZero (Some xs) n = (n ≡ 0) ↔ (xs ≡ [])

-- `bytes` were taken after those taken before
abbrev pub TookMore : Option (List ℕ) → Option (List ℕ) → List ℕ → Type 0
TookMore old new bytes = new ≡ option_map (λ before. before ++ bytes) old

-- the first bytes of a text were taken, and no others
abbrev pub TookFront : Option (List ℕ) → Option (List ℕ) → List ℕ → Type 0
TookFront old new text = (n : ℕ) × (n ≤ length text) × TookMore old new (take n text)

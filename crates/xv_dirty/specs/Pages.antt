-- A set of pages, as a list that says of each page whether it is a member.
use Rattle.std.specs.Prelude.{ℕ, Bool, List, Option, count_by, position, replicate, false, get_or}

-- whether a page is a member
abbrev pub member : List Bool → ℕ → Bool
member set page = get_or set page false

-- how many members there are
abbrev pub members : List Bool → ℕ
members set = count_by (λ b. b) set

-- the least member, or none where there is none
abbrev pub least : List Bool → Option ℕ
least set = position (λ b. b) set

-- the set of this range without members
abbrev pub no_pages : ℕ → List Bool
no_pages range = replicate range false

-- A call of a wire as data, and what it does to the bytes in transit and to what is counted.
use Rattle.std.specs.Prelude.{ℕ, ◌+◌, ◌-◌, ◌==◌, nat_lt, Bool, true, false, not, ◌&&◌, List, [], ◌∷◌, ◌++◌, length, drop, Result, Ok, Err, if◌then◌else◌}
use Rattle.xv_base.specs.Calls.{is_listed}
use Rattle.xv_base.specs.declared.unit.Failed.{Failed}

-- one call: bytes put, so many bytes taken, or none at all
pub data WireCall : Type 0 where
  NoCall : WireCall
  PutBytes : List ℕ → WireCall
  TakeBytes : ℕ → WireCall

-- the numbers, from 1, of the puts that are to fail, and of the pieces at whose first byte a take is to fail
pub record Plan : Type 0 where
  pub puts : List ℕ
  pub takes : List ℕ

-- how many puts were called, how many pieces were put, how many bytes of each piece are in transit, and whether a take
-- has met the first byte of the first of them
pub record Counted : Type 0 where
  pub plan : Plan
  pub puts : ℕ
  pub pieces : ℕ
  pub left : List ℕ
  pub met : Bool

-- what is left of the pieces once so many bytes more are taken, and whether the last of those ended inside a piece
abbrev pub left_past : ℕ → List ℕ → List ℕ
left_past n [] = []
left_past n (p ∷ ps) = if nat_lt n p then (p - n) ∷ ps else left_past (n - p) ps

abbrev pub is_inside : ℕ → List ℕ → Bool
is_inside n [] = false
is_inside n (p ∷ ps) = if nat_lt n p then nat_lt 0 n else is_inside (n - p) ps

-- the same where a take may have moved nothing
abbrev pub left_after : ℕ → List ℕ → List ℕ
left_after n left = if n == 0 then left else left_past n left

abbrev pub met_past : ℕ → Bool → List ℕ → Bool
met_past n met left = if n == 0 then met else is_inside n left

-- the bytes in transit and the counts after a call that failed or did not; a take that failed met the first byte
abbrev pub transit_after : WireCall → Bool → List ℕ → List ℕ
transit_after NoCall failed transit = transit
transit_after (PutBytes bytes) failed transit = if failed then transit else transit ++ bytes
transit_after (TakeBytes n) failed transit = drop n transit

abbrev pub counted_after : WireCall → Bool → Counted → Counted
counted_after NoCall failed c = c
counted_after (PutBytes bytes) failed c = record c {
  puts = c.puts + 1;
  pieces = if failed then c.pieces else c.pieces + 1;
  left = if failed then c.left else c.left ++ length bytes ∷ [];
}
counted_after (TakeBytes n) failed c = record c { left = left_after n c.left; met = if failed then true else met_past n c.met c.left }

-- the number of the piece whose bytes are the first in transit
abbrev pub front_piece : Counted → ℕ
front_piece c = c.pieces + 1 - length c.left

-- whether the plan has the number of the put, or of the piece whose first byte is the first in transit, if no take met it
abbrev pub is_planned : WireCall → List ℕ → Counted → Bool
is_planned NoCall transit c = false
is_planned (PutBytes bytes) transit c = is_listed c.plan.puts (c.puts + 1)
is_planned (TakeBytes n) transit c = (nat_lt 0 (length transit) && not c.met) && is_listed c.plan.takes (front_piece c)

-- how many bytes a take moved
abbrev pub taken : Result ℕ Failed → ℕ
taken (Ok n) = n
taken (Err f) = 0

-- The place of the next block, lent to be written.
use Rattle.std.specs.Prelude.{ℕ, List}
use Rattle.std.specs.Borrow.{Lends, MutBor, Fml, u8, Array}
use Rattle.xv_region.specs.Copying.{Copying, with_next}
use Rattle.xv_region.specs.contracts.region.Region.{the_row}

-- c ends with the last bytes behind r in the place of its next block
abbrev pub LendsNext : MutBor Copying → MutBor (List ℕ) → Fml
LendsNext c r = Lends the_row (Array u8 0) c r (with_next c.now)

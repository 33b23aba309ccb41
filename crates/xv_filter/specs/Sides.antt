-- Where a block stands against the copy of its disk.
use Rattle.std.specs.Prelude.{ℕ, ◌+◌, ◌&&◌, nat_lt, nat_le, Bool, if◌then◌else◌}
use Rattle.xv_base.specs.declared.event.Side.{Side}
use Rattle.xv_base.specs.declared.event.Side.TheVariants.{Ahead, Inside, Behind}

-- below the cursor
abbrev pub is_behind : ℕ → ℕ → Bool
is_behind cursor block = nat_lt block cursor

-- in the region, which begins at the cursor
abbrev pub is_inside : ℕ → ℕ → ℕ → Bool
is_inside cursor length block = nat_le cursor block && nat_lt block (cursor + length)

-- each block stands on exactly one of three sides
abbrev pub block_side : ℕ → ℕ → ℕ → Side
block_side cursor length block =
    if is_behind cursor block then Behind else (if is_inside cursor length block then Inside else Ahead)

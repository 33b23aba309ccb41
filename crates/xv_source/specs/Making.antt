-- The messages of a region, made block by block.
use Rattle.std.specs.Prelude.{ℕ, zero, suc, ◌+◌, List, [], get_or}
use Rattle.xv_outbox.specs.Messages.{Outbox, made}

-- the outbox with a message of each of the first n blocks, whose units follow one another
abbrev pub made_blocks : Outbox → ℕ → ℕ → List (List ℕ) → ℕ → Outbox
made_blocks box unit at blocks zero = box
made_blocks box unit at blocks (suc n) = made (made_blocks box unit at blocks n) (unit + n) at (get_or blocks n [])

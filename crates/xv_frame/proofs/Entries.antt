-- The entry of a message, by whether its content is all zero.
use Rattle.std.proofs.Common.{◌≡◌, ℕ, List, ◌++◌, ap, true, false}
use Rattle.std.specs.Prelude.{if◌then◌else◌}
use Rattle.xv_base.specs.declared.operation.UnitHead.{UnitHead}
use Rattle.xv_frame.specs.Fields.{all_zero}
use Rattle.xv_frame.specs.Frame.{message, entry, entry_head}

pub entry-marked : (h : UnitHead) (c : List ℕ) → all_zero c ≡ true → entry (message h c) ≡ entry_head h 1
entry-marked h c e = ap (λ b. if b then entry_head h 1 else entry_head h 0 ++ c) e

pub entry-whole : (h : UnitHead) (c : List ℕ) → all_zero c ≡ false → entry (message h c) ≡ entry_head h 0 ++ c
entry-whole h c e = ap (λ b. if b then entry_head h 1 else entry_head h 0 ++ c) e

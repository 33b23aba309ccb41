-- Which operations a guest may do.
use Rattle.std.specs.Prelude.{◌≡◌, ◌<◌, ◌≤◌, ◌+◌, true, false, is_some}
use Rattle.xv_base.specs.declared.pattern.UnitOp.{UnitOp}
use Rattle.xv_base.specs.declared.limits.TheConstants.{MOST_PATTERN}
use Rattle.xv_base.specs.Units.{Shape, units, size, is_page}

-- where an operation may act: a part of one unit, a write of a block being of the whole block, and a read of no
-- more bytes than a pattern may have
pub record IsLegal (shape : Shape) (op : UnitOp) : Type 0 where
  pub unit_is : op.unit.0 < units shape
  pub some_bytes : 0 < op.len
  pub in_unit : op.offset + op.len ≤ size shape op.unit.0
  pub whole_block : is_some op.write ≡ true → is_page shape op.unit.0 ≡ false → (op.offset ≡ 0) × (op.len ≡ size shape op.unit.0)
  pub short_read : is_some op.write ≡ false → op.len ≤ MOST_PATTERN

-- The bytes of a head, that a frame of one message, or an acknowledgement, begins with.
use Rattle.std.specs.Prelude.{ℕ, ◌^◌, ◌<◌, ◌≤◌, ⊤, List}
use Rattle.xv_base.specs.declared.limits.TheConstants.{MOST_CREDIT}
use Rattle.xv_base.specs.Units.{Shape, units, size}
use Rattle.xv_frame.specs.declared.heads.Head.{Head}
use Rattle.xv_frame.specs.declared.heads.Head.TheVariants.{Unit as UnitHeadOf, Ack}
use Rattle.xv_frame.specs.Frame.{unit_head, ack}

-- a unit of the layout and a version that was made, or a count of as many messages as there may be
abbrev pub IsHead : Shape → Head → Type 0
IsHead s (UnitHeadOf h) = (h.unit.0 < units s) × (1 ≤ h.version) × (h.version < 2 ^ 32) × (h.at < 2 ^ 64)
IsHead s (Ack count) = (1 ≤ count) × (count ≤ MOST_CREDIT)

-- the unit, if it names one, is of the layout
abbrev pub IsOfLayout : Shape → Head → Type 0
IsOfLayout s (UnitHeadOf h) = h.unit.0 < units s
IsOfLayout s (Ack count) = ⊤

abbrev pub head_spelled : Shape → Head → List ℕ
head_spelled s (UnitHeadOf h) = unit_head h (size s h.unit.0)
head_spelled s (Ack count) = ack count

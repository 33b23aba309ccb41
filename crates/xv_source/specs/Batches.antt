-- The messages that go on a stream together.
use Rattle.std.specs.Prelude.{ℕ, ◌-◌, ◌==◌, drop, if◌then◌else◌}
use Rattle.xv_base.specs.declared.limits.TheConstants.{SINGLE_FORMAT}
use Rattle.xv_outbox.specs.Messages.{Outbox}
use Rattle.xv_model.specs.View.{UnitHead}
use Rattle.xv_model.specs.Effect.{Turn, note}
use Rattle.xv_source.specs.Half.{Source}

-- an outbox and a half without the first n messages, each of which has taken one of the credit
abbrev pub outbox_past : ℕ → Outbox → Outbox
outbox_past n o = record o { messages = drop n o.messages }

abbrev pub past : ℕ → Source → Source
past n h = record h { messages = drop n h.messages; contents = drop n h.contents; credit = h.credit - n }

-- what is told of some messages, of which this is the first: one by its unit and version, a group by its length and its
-- first unit
abbrev pub told_of : ℕ → ℕ → UnitHead → Turn
told_of format n first = if format == SINGLE_FORMAT then note first.unit.0 first.version else note n first.unit.0

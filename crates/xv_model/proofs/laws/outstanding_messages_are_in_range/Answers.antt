use Rattle.xv_model.proofs.Window.{outstanding-unit, outstanding-above, outstanding-within, outstanding-once, outstanding-at}
use Rattle.xv_model.proofs.laws.outstanding_messages_are_in_range.Goals as goal

pub returns : goal.returns
returns c = record { units = outstanding-unit; above_applied = outstanding-above; issued = outstanding-within; once = outstanding-once; made_after = outstanding-at }

-- A cancelled migration leaves the guest with the source.
use Rattle.std.specs.Prelude.{List, [], ◌∷◌, Some, None}
use Rattle.xv_model.specs.Job.{Job, Shape, first_start}
use Rattle.xv_model.specs.Wait.{Event}
use Rattle.xv_model.specs.Effect.{Turn}
use Rattle.xv_model.specs.Worked.{guest, done, op}
use Rattle.xv_base.specs.declared.event.Event.TheVariants.{Round, Page, Send, Stun, Switch, Cancel}
use Rattle.xv_base.specs.declared.answer.Turn.TheVariants.{Wait}
use Rattle.xv_base.specs.declared.answer.Why.TheVariants.{CancelDue, NotNow}
use Rattle.xv_base.specs.declared.event.Phase.TheVariants.{Cancelled}
use Rattle.xv_base.specs.declared.event.Totals.{Totals}

abbrev pub cancelled_while_stunned_job : Job
cancelled_while_stunned_job =
    let machine : Shape = record { pages = 1; page_size = 16; disks = [] } in
    record {
      shape = machine;
      copy = machine;
      format = 1;
      group = 1;
      config = record { streams = 1; credit = 2; outbox = 2; region = 1; rounds = 1; dirty = 0; cancel = Some 1 };
      faults = [];
      init = [];
      traces = ((op 0 0 1 (Some (170 ∷ [])) ∷ op 0 0 2 None ∷ []) ∷ []);
      start = first_start;
    }

abbrev pub cancelled_while_stunned_events : List Event
cancelled_while_stunned_events =
    Stun
    ∷ Cancel
    ∷ guest 0
    ∷ guest 0
    ∷ Round
    ∷ Page
    ∷ Stun
    ∷ guest 0
    ∷ Switch
    ∷ Cancel
    ∷ guest 0
    ∷ Send 0
    ∷ []

abbrev pub cancelled_while_stunned_turns : List Turn
cancelled_while_stunned_turns =
    Wait CancelDue
    ∷ Wait NotNow
    ∷ done 0 0
    ∷ Wait CancelDue
    ∷ done 1 0
    ∷ done 0 1
    ∷ done 0 0
    ∷ Wait CancelDue
    ∷ Wait CancelDue
    ∷ done 0 0
    ∷ done 2 0
    ∷ Wait NotNow
    ∷ []

abbrev pub cancelled_while_stunned_totals : Totals
cancelled_while_stunned_totals = record { phase = Cancelled; history = 2; faulted = 0; journal = 6; stun = Some 1; copied = 0; rounds = 1; messages = 1; mirrors = 0; applied = 0; credit = 2 }

-- The switchover waits until the credit is whole.
use Rattle.std.specs.Prelude.{List, [], ◌∷◌, Some, None}
use Rattle.xv_model.specs.Job.{Job, Shape, first_start}
use Rattle.xv_model.specs.Wait.{Event}
use Rattle.xv_model.specs.Effect.{Turn}
use Rattle.xv_model.specs.Worked.{guest, done}
use Rattle.xv_base.specs.declared.event.Event.TheVariants.{Round, Page, Send, Deliver, Apply, Ack, Credit, Stun, Switch}
use Rattle.xv_base.specs.declared.answer.Turn.TheVariants.{Wait}
use Rattle.xv_base.specs.declared.answer.Why.TheVariants.{TraceEnd, NotNow}
use Rattle.xv_base.specs.declared.event.Phase.TheVariants.{Switched}
use Rattle.xv_base.specs.declared.event.Totals.{Totals}

abbrev pub switch_by_credit_alone_job : Job
switch_by_credit_alone_job =
    let machine : Shape = record { pages = 1; page_size = 16; disks = [] } in
    record {
      shape = machine;
      copy = machine;
      format = 1;
      group = 1;
      config = record { streams = 1; credit = 2; outbox = 2; region = 1; rounds = 1; dirty = 0; cancel = None };
      faults = [];
      init = [];
      traces = ([] ∷ []);
      start = first_start;
    }

abbrev pub switch_by_credit_alone_events : List Event
switch_by_credit_alone_events =
    Round
    ∷ Page
    ∷ Stun
    ∷ Send 0
    ∷ Deliver 0
    ∷ Apply
    ∷ Switch
    ∷ Ack
    ∷ Switch
    ∷ Credit
    ∷ Switch
    ∷ guest 0
    ∷ []

abbrev pub switch_by_credit_alone_turns : List Turn
switch_by_credit_alone_turns =
    done 1 0
    ∷ done 0 1
    ∷ done 0 0
    ∷ done 0 1
    ∷ done 0 1
    ∷ done 0 1
    ∷ Wait NotNow
    ∷ done 1 0
    ∷ Wait NotNow
    ∷ done 1 0
    ∷ done 0 0
    ∷ Wait TraceEnd
    ∷ []

abbrev pub switch_by_credit_alone_totals : Totals
switch_by_credit_alone_totals = record { phase = Switched; history = 0; faulted = 0; journal = 9; stun = Some 0; copied = 0; rounds = 1; messages = 1; mirrors = 0; applied = 1; credit = 2 }

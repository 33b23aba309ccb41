-- Where there is nothing to do every event waits.
use Rattle.std.specs.Prelude.{List, [], ◌∷◌, None}
use Rattle.xv_model.specs.Job.{Job, Shape, first_start}
use Rattle.xv_model.specs.Wait.{Event}
use Rattle.xv_model.specs.Effect.{Turn}
use Rattle.xv_model.specs.Worked.{guest}
use Rattle.xv_base.specs.declared.event.Event.TheVariants.{Read, Advance, Release, Round, Page, Send, Deliver, Apply, Ack, Credit, Stun, Switch, Cancel}
use Rattle.xv_base.specs.declared.answer.Turn.TheVariants.{Wait}
use Rattle.xv_base.specs.declared.answer.Why.TheVariants.{TraceEnd, NothingThere, NotNow}
use Rattle.xv_base.specs.declared.event.Phase.TheVariants.{Running}
use Rattle.xv_base.specs.declared.event.Totals.{Totals}

abbrev pub nothing_there_job : Job
nothing_there_job =
    let machine : Shape = record { pages = 1; page_size = 16; disks = (record { blocks = 4; block_size = 16 } ∷ []) } in
    record {
      shape = machine;
      copy = machine;
      format = 1;
      group = 1;
      config = record { streams = 3; credit = 8; outbox = 8; region = 2; rounds = 2; dirty = 0; cancel = None };
      faults = [];
      init = [];
      traces = ([] ∷ []);
      start = first_start;
    }

abbrev pub nothing_there_events : List Event
nothing_there_events =
    Send 0
    ∷ Deliver 0
    ∷ Apply
    ∷ Ack
    ∷ Credit
    ∷ Page
    ∷ Release 0
    ∷ Read 0
    ∷ Advance 0
    ∷ Round
    ∷ Stun
    ∷ Switch
    ∷ Cancel
    ∷ guest 0
    ∷ []

abbrev pub nothing_there_turns : List Turn
nothing_there_turns =
    Wait NothingThere
    ∷ Wait NothingThere
    ∷ Wait NothingThere
    ∷ Wait NothingThere
    ∷ Wait NothingThere
    ∷ Wait NothingThere
    ∷ Wait NothingThere
    ∷ Wait NotNow
    ∷ Wait NotNow
    ∷ Wait NotNow
    ∷ Wait NotNow
    ∷ Wait NotNow
    ∷ Wait NotNow
    ∷ Wait TraceEnd
    ∷ []

abbrev pub nothing_there_totals : Totals
nothing_there_totals = record { phase = Running; history = 0; faulted = 0; journal = 0; stun = None; copied = 0; rounds = 0; messages = 0; mirrors = 0; applied = 0; credit = 8 }

-- A migration is cancelled while two writes wait: one is done on the source afterwards, the other fails there.
use Rattle.std.specs.Prelude.{List, [], ◌∷◌, Some, None}
use Rattle.xv_model.specs.Job.{Job, Shape, first_start}
use Rattle.xv_model.specs.Wait.{Event}
use Rattle.xv_model.specs.Effect.{Turn}
use Rattle.xv_model.specs.Worked.{guest, done, op}
use Rattle.xv_base.specs.declared.event.Event.TheVariants.{Begin, Read, Release, Round, Cancel}
use Rattle.xv_base.specs.declared.answer.Turn.TheVariants.{Queued, Faulted, Wait}
use Rattle.xv_base.specs.declared.answer.Why.TheVariants.{TraceEnd, CancelDue, NothingThere, NotNow}
use Rattle.xv_base.specs.declared.limits.Fault.TheVariants.{SourceWrite as FailWrite}
use Rattle.xv_base.specs.declared.event.Phase.TheVariants.{Cancelled}
use Rattle.xv_base.specs.declared.event.Totals.{Totals}

abbrev pub cancelled_with_a_queue_job : Job
cancelled_with_a_queue_job =
    let machine : Shape = record { pages = 1; page_size = 16; disks = (record { blocks = 4; block_size = 16 } ∷ []) } in
    record {
      shape = machine;
      copy = machine;
      format = 1;
      group = 1;
      config = record { streams = 3; credit = 8; outbox = 8; region = 2; rounds = 2; dirty = 0; cancel = Some 1 };
      faults = (FailWrite 2 ∷ []);
      init = [];
      traces = ((op 1 0 16 (Some (170 ∷ [])) ∷ []) ∷ (op 2 0 16 (Some (187 ∷ [])) ∷ []) ∷ (op 0 0 4 None ∷ op 1 0 2 None ∷ []) ∷ []);
      start = first_start;
    }

abbrev pub cancelled_with_a_queue_events : List Event
cancelled_with_a_queue_events =
    Begin 0
    ∷ Read 0
    ∷ guest 0
    ∷ guest 1
    ∷ guest 2
    ∷ Release 0
    ∷ Cancel
    ∷ Release 0
    ∷ Release 0
    ∷ Release 0
    ∷ guest 2
    ∷ guest 0
    ∷ Read 0
    ∷ Round
    ∷ []

abbrev pub cancelled_with_a_queue_turns : List Turn
cancelled_with_a_queue_turns =
    done 2 0
    ∷ done 1 0
    ∷ Queued
    ∷ Queued
    ∷ done 4 0
    ∷ Wait CancelDue
    ∷ done 0 0
    ∷ done 0 0
    ∷ Faulted
    ∷ Wait NothingThere
    ∷ done 2 0
    ∷ Wait TraceEnd
    ∷ Wait NotNow
    ∷ Wait NotNow
    ∷ []

abbrev pub cancelled_with_a_queue_totals : Totals
cancelled_with_a_queue_totals = record { phase = Cancelled; history = 4; faulted = 1; journal = 9; stun = None; copied = 0; rounds = 0; messages = 0; mirrors = 0; applied = 0; credit = 8 }

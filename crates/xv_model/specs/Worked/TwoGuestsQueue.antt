-- Two guests wait for one block, and their writes are made in the order of joining.
use Rattle.std.specs.Prelude.{List, [], ◌∷◌, Some, None}
use Rattle.xv_model.specs.Job.{Job, Shape, first_start}
use Rattle.xv_model.specs.Wait.{Event}
use Rattle.xv_model.specs.Effect.{Turn}
use Rattle.xv_model.specs.Worked.{guest, done, op}
use Rattle.xv_base.specs.declared.event.Event.TheVariants.{Begin, Read, Advance, Release}
use Rattle.xv_base.specs.declared.answer.Turn.TheVariants.{Queued, Wait}
use Rattle.xv_base.specs.declared.answer.Why.TheVariants.{NotNow}
use Rattle.xv_base.specs.declared.event.Phase.TheVariants.{Running}
use Rattle.xv_base.specs.declared.event.Totals.{Totals}

abbrev pub two_guests_queue_job : Job
two_guests_queue_job =
    let machine : Shape = record { pages = 1; page_size = 16; disks = (record { blocks = 4; block_size = 16 } ∷ []) } in
    record {
      shape = machine;
      copy = machine;
      format = 1;
      group = 1;
      config = record { streams = 3; credit = 8; outbox = 8; region = 2; rounds = 2; dirty = 0; cancel = None };
      faults = [];
      init = [];
      traces = ((op 1 0 16 (Some (17 ∷ [])) ∷ []) ∷ (op 1 0 16 (Some (34 ∷ [])) ∷ []) ∷ []);
      start = first_start;
    }

abbrev pub two_guests_queue_events : List Event
two_guests_queue_events =
    Begin 0
    ∷ Read 0
    ∷ guest 1
    ∷ guest 0
    ∷ Begin 0
    ∷ Read 0
    ∷ Advance 0
    ∷ Begin 0
    ∷ Release 0
    ∷ Release 0
    ∷ []

abbrev pub two_guests_queue_turns : List Turn
two_guests_queue_turns =
    done 2 0
    ∷ done 1 0
    ∷ Queued
    ∷ Queued
    ∷ Wait NotNow
    ∷ done 2 0
    ∷ done 2 0
    ∷ Wait NotNow
    ∷ done 1 0
    ∷ done 0 0
    ∷ []

abbrev pub two_guests_queue_totals : Totals
two_guests_queue_totals = record { phase = Running; history = 2; faulted = 0; journal = 8; stun = None; copied = 2; rounds = 0; messages = 4; mirrors = 2; applied = 0; credit = 8 }

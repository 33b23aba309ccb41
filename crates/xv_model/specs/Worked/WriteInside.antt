-- A write inside the region waits until the region is behind.
use Rattle.std.specs.Prelude.{List, [], ◌∷◌, Some, None}
use Rattle.xv_model.specs.Job.{Job, Shape, first_start}
use Rattle.xv_model.specs.Wait.{Event}
use Rattle.xv_model.specs.Effect.{Turn}
use Rattle.xv_model.specs.Worked.{guest, done, op}
use Rattle.xv_base.specs.declared.event.Event.TheVariants.{Begin, Read, Advance, Release}
use Rattle.xv_base.specs.declared.answer.Turn.TheVariants.{Queued, Wait}
use Rattle.xv_base.specs.declared.answer.Why.TheVariants.{InQueue, NotNow}
use Rattle.xv_base.specs.declared.event.Phase.TheVariants.{Running}
use Rattle.xv_base.specs.declared.event.Totals.{Totals}

abbrev pub write_inside_job : Job
write_inside_job =
    let machine : Shape = record { pages = 1; page_size = 16; disks = (record { blocks = 4; block_size = 16 } ∷ []) } in
    record {
      shape = machine;
      copy = machine;
      format = 1;
      group = 1;
      config = record { streams = 3; credit = 8; outbox = 8; region = 2; rounds = 2; dirty = 0; cancel = None };
      faults = [];
      init = [];
      traces = ((op 2 0 16 (Some (204 ∷ [])) ∷ []) ∷ []);
      start = first_start;
    }

abbrev pub write_inside_events : List Event
write_inside_events =
    Begin 0
    ∷ Read 0
    ∷ Read 0
    ∷ guest 0
    ∷ guest 0
    ∷ Release 0
    ∷ Advance 0
    ∷ Release 0
    ∷ []

abbrev pub write_inside_turns : List Turn
write_inside_turns =
    done 2 0
    ∷ done 1 0
    ∷ done 2 0
    ∷ Queued
    ∷ Wait InQueue
    ∷ Wait NotNow
    ∷ done 2 0
    ∷ done 0 0
    ∷ []

abbrev pub write_inside_totals : Totals
write_inside_totals = record { phase = Running; history = 1; faulted = 0; journal = 6; stun = None; copied = 2; rounds = 0; messages = 3; mirrors = 1; applied = 0; credit = 8 }

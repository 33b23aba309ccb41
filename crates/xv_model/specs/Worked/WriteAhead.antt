-- A write ahead of the copy goes to the source alone.
use Rattle.std.specs.Prelude.{List, [], ◌∷◌, Some, None}
use Rattle.xv_model.specs.Job.{Job, Shape, first_start}
use Rattle.xv_model.specs.Wait.{Event}
use Rattle.xv_model.specs.Effect.{Turn}
use Rattle.xv_model.specs.Worked.{guest, done, op}
use Rattle.xv_base.specs.declared.event.Event.TheVariants.{Begin, Read, Advance}
use Rattle.xv_base.specs.declared.event.Phase.TheVariants.{Running}
use Rattle.xv_base.specs.declared.event.Totals.{Totals}

abbrev pub write_ahead_job : Job
write_ahead_job =
    let machine : Shape = record { pages = 1; page_size = 16; disks = (record { blocks = 4; block_size = 16 } ∷ []) } in
    record {
      shape = machine;
      copy = machine;
      format = 1;
      group = 1;
      config = record { streams = 3; credit = 8; outbox = 8; region = 1; rounds = 2; dirty = 0; cancel = None };
      faults = [];
      init = [];
      traces = ((op 4 0 16 (Some (170 ∷ [])) ∷ []) ∷ []);
      start = first_start;
    }

abbrev pub write_ahead_events : List Event
write_ahead_events =
    guest 0
    ∷ Begin 0
    ∷ Read 0
    ∷ Advance 0
    ∷ Begin 0
    ∷ Read 0
    ∷ Advance 0
    ∷ Begin 0
    ∷ Read 0
    ∷ Advance 0
    ∷ Begin 0
    ∷ Read 0
    ∷ Advance 0
    ∷ []

abbrev pub write_ahead_turns : List Turn
write_ahead_turns =
    done 0 0
    ∷ done 1 0
    ∷ done 1 0
    ∷ done 1 0
    ∷ done 1 0
    ∷ done 2 0
    ∷ done 1 0
    ∷ done 1 0
    ∷ done 3 0
    ∷ done 1 0
    ∷ done 1 0
    ∷ done 4 0
    ∷ done 1 0
    ∷ []

abbrev pub write_ahead_totals : Totals
write_ahead_totals = record { phase = Running; history = 1; faulted = 0; journal = 13; stun = None; copied = 4; rounds = 0; messages = 4; mirrors = 0; applied = 0; credit = 8 }

-- A write behind the copy is done before its mirror is.
use Rattle.std.specs.Prelude.{List, [], ◌∷◌, Some, None}
use Rattle.xv_model.specs.Job.{Job, Shape, first_start}
use Rattle.xv_model.specs.Wait.{Event}
use Rattle.xv_model.specs.Effect.{Turn}
use Rattle.xv_model.specs.Worked.{guest, done, op}
use Rattle.xv_base.specs.declared.event.Event.TheVariants.{Begin, Read, Advance, Send, Deliver, Apply}
use Rattle.xv_base.specs.declared.event.Phase.TheVariants.{Running}
use Rattle.xv_base.specs.declared.event.Totals.{Totals}

abbrev pub write_behind_job : Job
write_behind_job =
    let machine : Shape = record { pages = 1; page_size = 16; disks = (record { blocks = 4; block_size = 16 } ∷ []) } in
    record {
      shape = machine;
      copy = machine;
      format = 1;
      group = 1;
      config = record { streams = 3; credit = 8; outbox = 8; region = 1; rounds = 2; dirty = 0; cancel = None };
      faults = [];
      init = [];
      traces = ((op 1 0 16 (Some (187 ∷ [])) ∷ []) ∷ []);
      start = first_start;
    }

abbrev pub write_behind_events : List Event
write_behind_events =
    Begin 0
    ∷ Read 0
    ∷ Advance 0
    ∷ guest 0
    ∷ Send 0
    ∷ Send 0
    ∷ Deliver 0
    ∷ Apply
    ∷ []

abbrev pub write_behind_turns : List Turn
write_behind_turns =
    done 1 0
    ∷ done 1 0
    ∷ done 1 0
    ∷ done 0 0
    ∷ done 1 1
    ∷ done 1 2
    ∷ done 1 1
    ∷ done 1 1
    ∷ []

abbrev pub write_behind_totals : Totals
write_behind_totals = record { phase = Running; history = 1; faulted = 0; journal = 8; stun = None; copied = 1; rounds = 0; messages = 2; mirrors = 1; applied = 1; credit = 6 }

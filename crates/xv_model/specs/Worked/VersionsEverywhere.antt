-- One block's versions are in every place at once, applied, held, on a stream and in the outbox; then all are applied.
use Rattle.std.specs.Prelude.{List, [], ◌∷◌, Some, None}
use Rattle.xv_model.specs.Job.{Job, Shape, first_start}
use Rattle.xv_model.specs.Wait.{Event}
use Rattle.xv_model.specs.Effect.{Turn}
use Rattle.xv_model.specs.Worked.{guest, done, op}
use Rattle.xv_base.specs.declared.event.Event.TheVariants.{Begin, Read, Advance, Send, Deliver, Apply}
use Rattle.xv_base.specs.declared.answer.Turn.TheVariants.{Wait}
use Rattle.xv_base.specs.declared.answer.Why.TheVariants.{NothingThere}
use Rattle.xv_base.specs.declared.event.Phase.TheVariants.{Running}
use Rattle.xv_base.specs.declared.event.Totals.{Totals}

abbrev pub versions_everywhere_job : Job
versions_everywhere_job =
    let machine : Shape = record { pages = 1; page_size = 16; disks = (record { blocks = 1; block_size = 16 } ∷ []) } in
    record {
      shape = machine;
      copy = machine;
      format = 1;
      group = 1;
      config = record { streams = 2; credit = 8; outbox = 8; region = 1; rounds = 2; dirty = 0; cancel = None };
      faults = [];
      init = [];
      traces = ((op 1 0 16 (Some (17 ∷ [])) ∷ op 1 0 16 (Some (34 ∷ [])) ∷ op 1 0 16 (Some (51 ∷ [])) ∷ []) ∷ []);
      start = first_start;
    }

abbrev pub versions_everywhere_events : List Event
versions_everywhere_events =
    Begin 0
    ∷ Read 0
    ∷ Advance 0
    ∷ guest 0
    ∷ guest 0
    ∷ guest 0
    ∷ Send 0
    ∷ Deliver 0
    ∷ Apply
    ∷ Send 0
    ∷ Send 1
    ∷ Deliver 1
    ∷ Apply
    ∷ Deliver 0
    ∷ Apply
    ∷ Apply
    ∷ Send 0
    ∷ Deliver 0
    ∷ Apply
    ∷ []

abbrev pub versions_everywhere_turns : List Turn
versions_everywhere_turns =
    done 1 0
    ∷ done 1 0
    ∷ done 1 0
    ∷ done 0 0
    ∷ done 0 0
    ∷ done 0 0
    ∷ done 1 1
    ∷ done 1 1
    ∷ done 1 1
    ∷ done 1 2
    ∷ done 1 3
    ∷ done 1 3
    ∷ Wait NothingThere
    ∷ done 1 2
    ∷ done 1 2
    ∷ done 1 3
    ∷ done 1 4
    ∷ done 1 4
    ∷ done 1 4
    ∷ []

abbrev pub versions_everywhere_totals : Totals
versions_everywhere_totals = record { phase = Running; history = 3; faulted = 0; journal = 18; stun = None; copied = 1; rounds = 0; messages = 4; mirrors = 3; applied = 4; credit = 4 }

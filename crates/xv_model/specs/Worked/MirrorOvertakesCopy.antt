-- A mirror that overtakes the copy is held until the copy is written.
use Rattle.std.specs.Prelude.{List, [], ◌∷◌, Some, None}
use Rattle.xv_model.specs.Job.{Job, Shape, first_start}
use Rattle.xv_model.specs.Wait.{Event}
use Rattle.xv_model.specs.Effect.{Turn}
use Rattle.xv_model.specs.Worked.{guest, done, op}
use Rattle.xv_base.specs.declared.event.Event.TheVariants.{Begin, Read, Advance, Send, Deliver, Apply}
use Rattle.xv_base.specs.declared.answer.Turn.TheVariants.{Wait}
use Rattle.xv_base.specs.declared.answer.Why.TheVariants.{NothingThere}
use Rattle.xv_base.specs.declared.event.Phase.TheVariants.{Running}
use Rattle.xv_base.specs.declared.event.Totals.{Totals}

abbrev pub mirror_overtakes_copy_job : Job
mirror_overtakes_copy_job =
    let machine : Shape = record { pages = 1; page_size = 16; disks = (record { blocks = 4; block_size = 16 } ∷ []) } in
    record {
      shape = machine;
      copy = machine;
      format = 1;
      group = 1;
      config = record { streams = 3; credit = 8; outbox = 8; region = 1; rounds = 2; dirty = 0; cancel = None };
      faults = [];
      init = [];
      traces = ((op 1 0 16 (Some (187 ∷ [])) ∷ []) ∷ []);
      start = first_start;
    }

abbrev pub mirror_overtakes_copy_events : List Event
mirror_overtakes_copy_events =
    Begin 0
    ∷ Read 0
    ∷ Advance 0
    ∷ guest 0
    ∷ Send 0
    ∷ Send 1
    ∷ Deliver 1
    ∷ Apply
    ∷ Deliver 0
    ∷ Apply
    ∷ Apply
    ∷ Apply
    ∷ []

abbrev pub mirror_overtakes_copy_turns : List Turn
mirror_overtakes_copy_turns =
    done 1 0
    ∷ done 1 0
    ∷ done 1 0
    ∷ done 0 0
    ∷ done 1 1
    ∷ done 1 2
    ∷ done 1 2
    ∷ Wait NothingThere
    ∷ done 1 1
    ∷ done 1 1
    ∷ done 1 2
    ∷ Wait NothingThere
    ∷ []

abbrev pub mirror_overtakes_copy_totals : Totals
mirror_overtakes_copy_totals = record { phase = Running; history = 1; faulted = 0; journal = 10; stun = None; copied = 1; rounds = 0; messages = 2; mirrors = 1; applied = 2; credit = 6 }

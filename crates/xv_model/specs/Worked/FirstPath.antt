-- One page and one disk, from the first copy to the switchover.
use Rattle.std.specs.Prelude.{List, [], ◌∷◌, Some, None}
use Rattle.xv_model.specs.Job.{Job, Shape, first_start}
use Rattle.xv_model.specs.Wait.{Event}
use Rattle.xv_model.specs.Effect.{Turn}
use Rattle.xv_model.specs.Worked.{done}
use Rattle.xv_base.specs.declared.event.Event.TheVariants.{Begin, Read, Advance, Round, Page, Send, Deliver, Apply, Ack, Credit, Stun, Switch}
use Rattle.xv_base.specs.declared.event.Phase.TheVariants.{Switched}
use Rattle.xv_base.specs.declared.event.Totals.{Totals}

abbrev pub first_path_job : Job
first_path_job =
    let machine : Shape = record { pages = 1; page_size = 16; disks = (record { blocks = 2; block_size = 16 } ∷ []) } in
    record {
      shape = machine;
      copy = machine;
      format = 1;
      group = 1;
      config = record { streams = 1; credit = 4; outbox = 4; region = 1; rounds = 1; dirty = 0; cancel = None };
      faults = [];
      init = [];
      traces = ([] ∷ []);
      start = first_start;
    }

abbrev pub first_path_events : List Event
first_path_events =
    Begin 0
    ∷ Read 0
    ∷ Advance 0
    ∷ Begin 0
    ∷ Read 0
    ∷ Advance 0
    ∷ Round
    ∷ Page
    ∷ Send 0
    ∷ Send 0
    ∷ Send 0
    ∷ Deliver 0
    ∷ Deliver 0
    ∷ Deliver 0
    ∷ Apply
    ∷ Apply
    ∷ Apply
    ∷ Ack
    ∷ Credit
    ∷ Stun
    ∷ Switch
    ∷ []

abbrev pub first_path_turns : List Turn
first_path_turns =
    done 1 0
    ∷ done 1 0
    ∷ done 1 0
    ∷ done 1 0
    ∷ done 2 0
    ∷ done 1 0
    ∷ done 1 0
    ∷ done 0 1
    ∷ done 1 1
    ∷ done 2 1
    ∷ done 0 1
    ∷ done 1 1
    ∷ done 2 1
    ∷ done 0 1
    ∷ done 1 1
    ∷ done 2 1
    ∷ done 0 1
    ∷ done 3 0
    ∷ done 3 0
    ∷ done 0 0
    ∷ done 0 0
    ∷ []

abbrev pub first_path_totals : Totals
first_path_totals = record { phase = Switched; history = 0; faulted = 0; journal = 21; stun = Some 0; copied = 2; rounds = 1; messages = 3; mirrors = 0; applied = 3; credit = 4 }

-- A round of pages beside the copy of the disk.
use Rattle.std.specs.Prelude.{List, [], ◌∷◌, Some, None}
use Rattle.xv_model.specs.Job.{Job, Shape, first_start}
use Rattle.xv_model.specs.Wait.{Event}
use Rattle.xv_model.specs.Effect.{Turn}
use Rattle.xv_model.specs.Worked.{done}
use Rattle.xv_base.specs.declared.event.Event.TheVariants.{Begin, Read, Advance, Round, Page, Send, Deliver, Apply, Ack, Credit, Stun, Switch}
use Rattle.xv_base.specs.declared.answer.Turn.TheVariants.{Wait}
use Rattle.xv_base.specs.declared.answer.Why.TheVariants.{NotNow}
use Rattle.xv_base.specs.declared.event.Phase.TheVariants.{Switched}
use Rattle.xv_base.specs.declared.event.Totals.{Totals}

abbrev pub rounds_beside_the_pass_job : Job
rounds_beside_the_pass_job =
    let machine : Shape = record { pages = 1; page_size = 16; disks = (record { blocks = 2; block_size = 16 } ∷ []) } in
    record {
      shape = machine;
      copy = machine;
      format = 2;
      group = 2;
      config = record { streams = 1; credit = 4; outbox = 4; region = 1; rounds = 1; dirty = 0; cancel = None };
      faults = [];
      init = [];
      traces = ([] ∷ []);
      start = first_start;
    }

abbrev pub rounds_beside_the_pass_events : List Event
rounds_beside_the_pass_events =
    Round
    ∷ Page
    ∷ Round
    ∷ Begin 0
    ∷ Read 0
    ∷ Advance 0
    ∷ Begin 0
    ∷ Read 0
    ∷ Advance 0
    ∷ Send 0
    ∷ Send 0
    ∷ Deliver 0
    ∷ Deliver 0
    ∷ Apply
    ∷ Apply
    ∷ Apply
    ∷ Ack
    ∷ Credit
    ∷ Stun
    ∷ Switch
    ∷ []

abbrev pub rounds_beside_the_pass_turns : List Turn
rounds_beside_the_pass_turns =
    done 1 0
    ∷ done 0 1
    ∷ Wait NotNow
    ∷ done 1 0
    ∷ done 1 0
    ∷ done 1 0
    ∷ done 1 0
    ∷ done 2 0
    ∷ done 1 0
    ∷ done 2 0
    ∷ done 1 2
    ∷ done 2 0
    ∷ done 1 2
    ∷ done 0 1
    ∷ done 1 1
    ∷ done 2 1
    ∷ done 3 0
    ∷ done 3 0
    ∷ done 0 0
    ∷ done 0 0
    ∷ []

abbrev pub rounds_beside_the_pass_totals : Totals
rounds_beside_the_pass_totals = record { phase = Switched; history = 0; faulted = 0; journal = 19; stun = Some 0; copied = 2; rounds = 1; messages = 3; mirrors = 0; applied = 3; credit = 4 }

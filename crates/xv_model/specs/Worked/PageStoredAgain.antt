-- A page that is stored again after it was sent is sent again.
use Rattle.std.specs.Prelude.{List, [], ◌∷◌, Some, None}
use Rattle.xv_model.specs.Job.{Job, Shape, first_start}
use Rattle.xv_model.specs.Wait.{Event}
use Rattle.xv_model.specs.Effect.{Turn}
use Rattle.xv_model.specs.Worked.{guest, done, op}
use Rattle.xv_base.specs.declared.event.Event.TheVariants.{Round, Page, Stun}
use Rattle.xv_base.specs.declared.answer.Turn.TheVariants.{Wait}
use Rattle.xv_base.specs.declared.answer.Why.TheVariants.{NotNow}
use Rattle.xv_base.specs.declared.event.Phase.TheVariants.{Stunned}
use Rattle.xv_base.specs.declared.event.Totals.{Totals}

abbrev pub page_stored_again_job : Job
page_stored_again_job =
    let machine : Shape = record { pages = 2; page_size = 16; disks = [] } in
    record {
      shape = machine;
      copy = machine;
      format = 1;
      group = 1;
      config = record { streams = 1; credit = 8; outbox = 8; region = 1; rounds = 2; dirty = 0; cancel = None };
      faults = [];
      init = [];
      traces = ((op 1 0 4 (Some (1 ∷ 2 ∷ [])) ∷ op 1 1 1 (Some (255 ∷ [])) ∷ []) ∷ []);
      start = first_start;
    }

abbrev pub page_stored_again_events : List Event
page_stored_again_events =
    Round
    ∷ guest 0
    ∷ Page
    ∷ Page
    ∷ guest 0
    ∷ Stun
    ∷ Round
    ∷ Page
    ∷ Stun
    ∷ []

abbrev pub page_stored_again_turns : List Turn
page_stored_again_turns =
    done 2 0
    ∷ done 0 0
    ∷ done 0 1
    ∷ done 1 1
    ∷ done 0 0
    ∷ Wait NotNow
    ∷ done 1 0
    ∷ done 1 2
    ∷ done 0 0
    ∷ []

abbrev pub page_stored_again_totals : Totals
page_stored_again_totals = record { phase = Stunned; history = 2; faulted = 0; journal = 8; stun = Some 2; copied = 0; rounds = 2; messages = 3; mirrors = 0; applied = 0; credit = 8 }

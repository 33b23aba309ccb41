-- Rounds beside the copy may pass the limit of rounds.
use Rattle.std.specs.Prelude.{List, [], ◌∷◌, Some, None}
use Rattle.xv_model.specs.Job.{Job, Shape, first_start}
use Rattle.xv_model.specs.Wait.{Event}
use Rattle.xv_model.specs.Effect.{Turn}
use Rattle.xv_model.specs.Worked.{guest, done, op}
use Rattle.xv_base.specs.declared.event.Event.TheVariants.{Begin, Read, Advance, Round, Page, Stun}
use Rattle.xv_base.specs.declared.answer.Turn.TheVariants.{Wait}
use Rattle.xv_base.specs.declared.answer.Why.TheVariants.{NotNow}
use Rattle.xv_base.specs.declared.event.Phase.TheVariants.{Stunned}
use Rattle.xv_base.specs.declared.event.Totals.{Totals}

abbrev pub rounds_past_the_limit_job : Job
rounds_past_the_limit_job =
    let machine : Shape = record { pages = 1; page_size = 16; disks = (record { blocks = 1; block_size = 16 } ∷ []) } in
    record {
      shape = machine;
      copy = machine;
      format = 2;
      group = 1;
      config = record { streams = 1; credit = 8; outbox = 8; region = 1; rounds = 1; dirty = 0; cancel = None };
      faults = [];
      init = [];
      traces = ((op 0 0 1 (Some (170 ∷ [])) ∷ op 0 0 1 (Some (187 ∷ [])) ∷ []) ∷ []);
      start = first_start;
    }

abbrev pub rounds_past_the_limit_events : List Event
rounds_past_the_limit_events =
    Round
    ∷ Page
    ∷ guest 0
    ∷ Round
    ∷ Page
    ∷ guest 0
    ∷ Begin 0
    ∷ Read 0
    ∷ Advance 0
    ∷ Round
    ∷ Stun
    ∷ Page
    ∷ []

abbrev pub rounds_past_the_limit_turns : List Turn
rounds_past_the_limit_turns =
    done 1 0
    ∷ done 0 1
    ∷ done 0 0
    ∷ done 1 0
    ∷ done 0 2
    ∷ done 0 0
    ∷ done 1 0
    ∷ done 1 0
    ∷ done 1 0
    ∷ Wait NotNow
    ∷ done 1 0
    ∷ done 0 3
    ∷ []

abbrev pub rounds_past_the_limit_totals : Totals
rounds_past_the_limit_totals = record { phase = Stunned; history = 2; faulted = 0; journal = 11; stun = Some 2; copied = 1; rounds = 2; messages = 4; mirrors = 0; applied = 0; credit = 8 }

-- The stun waits for the rounds and the dirty limit.
use Rattle.std.specs.Prelude.{List, [], ◌∷◌, Some, None}
use Rattle.xv_model.specs.Job.{Job, Shape, first_start}
use Rattle.xv_model.specs.Wait.{Event}
use Rattle.xv_model.specs.Effect.{Turn}
use Rattle.xv_model.specs.Worked.{guest, done, op}
use Rattle.xv_base.specs.declared.event.Event.TheVariants.{Round, Page, Stun, Switch}
use Rattle.xv_base.specs.declared.answer.Turn.TheVariants.{Wait}
use Rattle.xv_base.specs.declared.answer.Why.TheVariants.{NotNow}
use Rattle.xv_base.specs.declared.event.Phase.TheVariants.{Stunned}
use Rattle.xv_base.specs.declared.event.Totals.{Totals}

abbrev pub stun_limits_job : Job
stun_limits_job =
    let machine : Shape = record { pages = 2; page_size = 16; disks = [] } in
    record {
      shape = machine;
      copy = machine;
      format = 1;
      group = 1;
      config = record { streams = 1; credit = 8; outbox = 8; region = 1; rounds = 2; dirty = 0; cancel = None };
      faults = [];
      init = [];
      traces = ((op 0 0 1 (Some (170 ∷ [])) ∷ op 0 0 1 (Some (187 ∷ [])) ∷ []) ∷ []);
      start = first_start;
    }

abbrev pub stun_limits_events : List Event
stun_limits_events =
    Stun
    ∷ Round
    ∷ Stun
    ∷ Page
    ∷ Page
    ∷ guest 0
    ∷ Stun
    ∷ Round
    ∷ Page
    ∷ guest 0
    ∷ Round
    ∷ Stun
    ∷ Page
    ∷ Switch
    ∷ []

abbrev pub stun_limits_turns : List Turn
stun_limits_turns =
    Wait NotNow
    ∷ done 2 0
    ∷ Wait NotNow
    ∷ done 0 1
    ∷ done 1 1
    ∷ done 0 0
    ∷ Wait NotNow
    ∷ done 1 0
    ∷ done 0 2
    ∷ done 0 0
    ∷ Wait NotNow
    ∷ done 1 0
    ∷ done 0 3
    ∷ Wait NotNow
    ∷ []

abbrev pub stun_limits_totals : Totals
stun_limits_totals = record { phase = Stunned; history = 2; faulted = 0; journal = 9; stun = Some 2; copied = 0; rounds = 2; messages = 4; mirrors = 0; applied = 0; credit = 8 }

-- A full outbox holds the guest and the copy back, and want of credit the outbox.
use Rattle.std.specs.Prelude.{List, [], ◌∷◌, Some, None}
use Rattle.xv_model.specs.Job.{Job, Shape, first_start}
use Rattle.xv_model.specs.Wait.{Event}
use Rattle.xv_model.specs.Effect.{Turn}
use Rattle.xv_model.specs.Worked.{guest, done, op}
use Rattle.xv_base.specs.declared.event.Event.TheVariants.{Begin, Read, Advance, Send, Deliver, Apply, Ack, Credit}
use Rattle.xv_base.specs.declared.answer.Turn.TheVariants.{Wait}
use Rattle.xv_base.specs.declared.answer.Why.TheVariants.{Throttled, NoCredit}
use Rattle.xv_base.specs.declared.event.Phase.TheVariants.{Running}
use Rattle.xv_base.specs.declared.event.Totals.{Totals}

abbrev pub throttling_job : Job
throttling_job =
    let machine : Shape = record { pages = 1; page_size = 16; disks = (record { blocks = 4; block_size = 16 } ∷ []) } in
    record {
      shape = machine;
      copy = machine;
      format = 1;
      group = 1;
      config = record { streams = 3; credit = 1; outbox = 1; region = 1; rounds = 2; dirty = 0; cancel = None };
      faults = [];
      init = [];
      traces = ((op 1 0 16 (Some (187 ∷ [])) ∷ []) ∷ []);
      start = first_start;
    }

abbrev pub throttling_events : List Event
throttling_events =
    Begin 0
    ∷ Read 0
    ∷ Advance 0
    ∷ guest 0
    ∷ Send 0
    ∷ guest 0
    ∷ Send 0
    ∷ Begin 0
    ∷ Read 0
    ∷ Advance 0
    ∷ Deliver 0
    ∷ Apply
    ∷ Ack
    ∷ Credit
    ∷ Send 0
    ∷ Advance 0
    ∷ []

abbrev pub throttling_turns : List Turn
throttling_turns =
    done 1 0
    ∷ done 1 0
    ∷ done 1 0
    ∷ Wait Throttled
    ∷ done 1 1
    ∷ done 0 0
    ∷ Wait NoCredit
    ∷ done 1 0
    ∷ done 2 0
    ∷ Wait Throttled
    ∷ done 1 1
    ∷ done 1 1
    ∷ done 1 0
    ∷ done 1 0
    ∷ done 1 2
    ∷ done 1 0
    ∷ []

abbrev pub throttling_totals : Totals
throttling_totals = record { phase = Running; history = 1; faulted = 0; journal = 13; stun = None; copied = 2; rounds = 0; messages = 3; mirrors = 1; applied = 1; credit = 0 }

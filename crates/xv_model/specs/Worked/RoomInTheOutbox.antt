-- Two places in the outbox: a queued write, a write behind, a region and a page each wait for their places.
use Rattle.std.specs.Prelude.{List, [], ◌∷◌, Some, None}
use Rattle.xv_model.specs.Job.{Job, Shape, first_start}
use Rattle.xv_model.specs.Wait.{Event}
use Rattle.xv_model.specs.Effect.{Turn}
use Rattle.xv_model.specs.Worked.{guest, done, op}
use Rattle.xv_base.specs.declared.event.Event.TheVariants.{Begin, Read, Advance, Release, Round, Page, Send}
use Rattle.xv_base.specs.declared.answer.Turn.TheVariants.{Queued, Wait}
use Rattle.xv_base.specs.declared.answer.Why.TheVariants.{Throttled}
use Rattle.xv_base.specs.declared.event.Phase.TheVariants.{Running}
use Rattle.xv_base.specs.declared.event.Totals.{Totals}

abbrev pub room_in_the_outbox_job : Job
room_in_the_outbox_job =
    let machine : Shape = record { pages = 1; page_size = 16; disks = (record { blocks = 4; block_size = 16 } ∷ []) } in
    record {
      shape = machine;
      copy = machine;
      format = 1;
      group = 1;
      config = record { streams = 1; credit = 16; outbox = 2; region = 2; rounds = 2; dirty = 0; cancel = None };
      faults = [];
      init = [];
      traces = ((op 1 0 16 (Some (17 ∷ [])) ∷ []) ∷ (op 2 0 16 (Some (34 ∷ [])) ∷ []) ∷ []);
      start = first_start;
    }

abbrev pub room_in_the_outbox_events : List Event
room_in_the_outbox_events =
    Begin 0
    ∷ Read 0
    ∷ Read 0
    ∷ guest 0
    ∷ Advance 0
    ∷ Release 0
    ∷ guest 1
    ∷ Send 0
    ∷ Release 0
    ∷ guest 1
    ∷ Send 0
    ∷ guest 1
    ∷ Begin 0
    ∷ Read 0
    ∷ Read 0
    ∷ Send 0
    ∷ Advance 0
    ∷ Send 0
    ∷ Advance 0
    ∷ Round
    ∷ Page
    ∷ Send 0
    ∷ Page
    ∷ []

abbrev pub room_in_the_outbox_turns : List Turn
room_in_the_outbox_turns =
    done 2 0
    ∷ done 1 0
    ∷ done 2 0
    ∷ Queued
    ∷ done 2 0
    ∷ Wait Throttled
    ∷ Wait Throttled
    ∷ done 1 1
    ∷ done 0 0
    ∷ Wait Throttled
    ∷ done 2 1
    ∷ done 0 0
    ∷ done 2 0
    ∷ done 3 0
    ∷ done 4 0
    ∷ done 1 2
    ∷ Wait Throttled
    ∷ done 2 2
    ∷ done 2 0
    ∷ done 1 0
    ∷ Wait Throttled
    ∷ done 3 1
    ∷ done 0 1
    ∷ []

abbrev pub room_in_the_outbox_totals : Totals
room_in_the_outbox_totals = record { phase = Running; history = 2; faulted = 0; journal = 18; stun = None; copied = 4; rounds = 1; messages = 7; mirrors = 2; applied = 0; credit = 11 }

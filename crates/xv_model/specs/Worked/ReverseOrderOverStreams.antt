-- Three versions that arrive in reverse order are written in order.
use Rattle.std.specs.Prelude.{List, [], ◌∷◌, Some, None}
use Rattle.xv_model.specs.Job.{Job, Shape, first_start}
use Rattle.xv_model.specs.Wait.{Event}
use Rattle.xv_model.specs.Effect.{Turn}
use Rattle.xv_model.specs.Worked.{guest, done, op}
use Rattle.xv_base.specs.declared.event.Event.TheVariants.{Begin, Read, Advance, Send, Deliver, Apply, Ack, Credit}
use Rattle.xv_base.specs.declared.answer.Turn.TheVariants.{Wait}
use Rattle.xv_base.specs.declared.answer.Why.TheVariants.{NothingThere}
use Rattle.xv_base.specs.declared.event.Phase.TheVariants.{Running}
use Rattle.xv_base.specs.declared.event.Totals.{Totals}

abbrev pub reverse_order_over_streams_job : Job
reverse_order_over_streams_job =
    let machine : Shape = record { pages = 1; page_size = 16; disks = (record { blocks = 4; block_size = 16 } ∷ []) } in
    record {
      shape = machine;
      copy = machine;
      format = 1;
      group = 1;
      config = record { streams = 3; credit = 8; outbox = 8; region = 1; rounds = 2; dirty = 0; cancel = None };
      faults = [];
      init = [];
      traces = ((op 1 0 16 (Some (187 ∷ [])) ∷ op 1 0 16 (Some (221 ∷ [])) ∷ []) ∷ []);
      start = first_start;
    }

abbrev pub reverse_order_over_streams_events : List Event
reverse_order_over_streams_events =
    Begin 0
    ∷ Read 0
    ∷ Advance 0
    ∷ guest 0
    ∷ guest 0
    ∷ Send 0
    ∷ Send 1
    ∷ Send 2
    ∷ Deliver 2
    ∷ Deliver 1
    ∷ Apply
    ∷ Deliver 0
    ∷ Apply
    ∷ Apply
    ∷ Apply
    ∷ Ack
    ∷ Credit
    ∷ []

abbrev pub reverse_order_over_streams_turns : List Turn
reverse_order_over_streams_turns =
    done 1 0
    ∷ done 1 0
    ∷ done 1 0
    ∷ done 0 0
    ∷ done 0 0
    ∷ done 1 1
    ∷ done 1 2
    ∷ done 1 3
    ∷ done 1 3
    ∷ done 1 2
    ∷ Wait NothingThere
    ∷ done 1 1
    ∷ done 1 1
    ∷ done 1 2
    ∷ done 1 3
    ∷ done 3 0
    ∷ done 3 0
    ∷ []

abbrev pub reverse_order_over_streams_totals : Totals
reverse_order_over_streams_totals = record { phase = Running; history = 2; faulted = 0; journal = 16; stun = None; copied = 1; rounds = 0; messages = 3; mirrors = 2; applied = 3; credit = 8 }

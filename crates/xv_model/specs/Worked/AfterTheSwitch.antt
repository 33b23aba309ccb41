-- After the switchover the guest writes and reads at the destination.
use Rattle.std.specs.Prelude.{List, [], ◌∷◌, Some, None}
use Rattle.xv_model.specs.Job.{Job, Shape, first_start}
use Rattle.xv_model.specs.Wait.{Event}
use Rattle.xv_model.specs.Effect.{Turn}
use Rattle.xv_model.specs.Worked.{guest, done, op}
use Rattle.xv_base.specs.declared.event.Event.TheVariants.{Begin, Read, Advance, Round, Page, Send, Deliver, Apply, Ack, Credit, Stun, Switch}
use Rattle.xv_base.specs.declared.answer.Turn.TheVariants.{Wait}
use Rattle.xv_base.specs.declared.answer.Why.TheVariants.{Stunned as Stopped}
use Rattle.xv_base.specs.declared.event.Phase.TheVariants.{Switched}
use Rattle.xv_base.specs.declared.event.Totals.{Totals}

abbrev pub after_the_switch_job : Job
after_the_switch_job =
    let machine : Shape = record { pages = 1; page_size = 16; disks = (record { blocks = 1; block_size = 16 } ∷ []) } in
    record {
      shape = machine;
      copy = machine;
      format = 1;
      group = 1;
      config = record { streams = 1; credit = 2; outbox = 2; region = 1; rounds = 1; dirty = 0; cancel = None };
      faults = [];
      init = [];
      traces = ((op 1 0 16 (Some (90 ∷ [])) ∷ op 1 0 2 None ∷ op 1 0 16 (Some (165 ∷ [])) ∷ op 1 14 2 None ∷ []) ∷ []);
      start = first_start;
    }

abbrev pub after_the_switch_events : List Event
after_the_switch_events =
    guest 0
    ∷ Begin 0
    ∷ Read 0
    ∷ Advance 0
    ∷ Round
    ∷ Page
    ∷ Send 0
    ∷ Send 0
    ∷ Deliver 0
    ∷ Deliver 0
    ∷ Apply
    ∷ Apply
    ∷ Ack
    ∷ Credit
    ∷ Stun
    ∷ guest 0
    ∷ Switch
    ∷ guest 0
    ∷ guest 0
    ∷ guest 0
    ∷ []

abbrev pub after_the_switch_turns : List Turn
after_the_switch_turns =
    done 0 0
    ∷ done 1 0
    ∷ done 1 0
    ∷ done 1 0
    ∷ done 1 0
    ∷ done 0 1
    ∷ done 1 1
    ∷ done 0 1
    ∷ done 1 1
    ∷ done 0 1
    ∷ done 1 1
    ∷ done 0 1
    ∷ done 2 0
    ∷ done 2 0
    ∷ done 0 0
    ∷ Wait Stopped
    ∷ done 0 0
    ∷ done 2 0
    ∷ done 0 0
    ∷ done 2 0
    ∷ []

abbrev pub after_the_switch_totals : Totals
after_the_switch_totals = record { phase = Switched; history = 4; faulted = 0; journal = 19; stun = Some 1; copied = 1; rounds = 1; messages = 2; mirrors = 0; applied = 2; credit = 2 }

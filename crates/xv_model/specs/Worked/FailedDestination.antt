-- A failed write at the destination ends the migration, and the queued write goes to the source.
use Rattle.std.specs.Prelude.{List, [], ◌∷◌, Some, None}
use Rattle.xv_model.specs.Job.{Job, Shape, first_start}
use Rattle.xv_model.specs.Wait.{Event}
use Rattle.xv_model.specs.Effect.{Turn}
use Rattle.xv_model.specs.Worked.{guest, done, op}
use Rattle.xv_base.specs.declared.event.Event.TheVariants.{Begin, Read, Advance, Release, Send, Deliver, Apply}
use Rattle.xv_base.specs.declared.answer.Turn.TheVariants.{Queued, Wait, Failed as Broke}
use Rattle.xv_base.specs.declared.answer.Why.TheVariants.{TraceEnd, NotNow}
use Rattle.xv_base.specs.declared.answer.Cause.TheVariants.{DestWrite}
use Rattle.xv_base.specs.declared.limits.Fault.TheVariants.{DestWrite as FailDestWrite}
use Rattle.xv_base.specs.declared.event.Phase.TheVariants.{Failed}
use Rattle.xv_base.specs.declared.event.Totals.{Totals}

abbrev pub failed_destination_job : Job
failed_destination_job =
    let machine : Shape = record { pages = 1; page_size = 16; disks = (record { blocks = 4; block_size = 16 } ∷ []) } in
    record {
      shape = machine;
      copy = machine;
      format = 1;
      group = 1;
      config = record { streams = 3; credit = 8; outbox = 8; region = 2; rounds = 2; dirty = 0; cancel = None };
      faults = (FailDestWrite 1 ∷ []);
      init = [];
      traces = ((op 3 0 16 (Some (238 ∷ [])) ∷ []) ∷ []);
      start = first_start;
    }

abbrev pub failed_destination_events : List Event
failed_destination_events =
    Begin 0
    ∷ Read 0
    ∷ Read 0
    ∷ Advance 0
    ∷ Begin 0
    ∷ guest 0
    ∷ Send 0
    ∷ Deliver 0
    ∷ Apply
    ∷ Release 0
    ∷ Apply
    ∷ guest 0
    ∷ []

abbrev pub failed_destination_turns : List Turn
failed_destination_turns =
    done 2 0
    ∷ done 1 0
    ∷ done 2 0
    ∷ done 2 0
    ∷ done 2 0
    ∷ Queued
    ∷ done 1 1
    ∷ done 1 1
    ∷ Broke DestWrite
    ∷ done 0 0
    ∷ Wait NotNow
    ∷ Wait TraceEnd
    ∷ []

abbrev pub failed_destination_totals : Totals
failed_destination_totals = record { phase = Failed; history = 1; faulted = 0; journal = 10; stun = None; copied = 2; rounds = 0; messages = 2; mirrors = 0; applied = 0; credit = 7 }

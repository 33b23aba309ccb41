-- A guest's own write that faults is not mirrored.
use Rattle.std.specs.Prelude.{List, [], ◌∷◌, Some, None}
use Rattle.xv_model.specs.Job.{Job, Shape, first_start}
use Rattle.xv_model.specs.Wait.{Event}
use Rattle.xv_model.specs.Effect.{Turn}
use Rattle.xv_model.specs.Worked.{guest, done, op}
use Rattle.xv_base.specs.declared.event.Event.TheVariants.{Begin, Read, Advance}
use Rattle.xv_base.specs.declared.answer.Turn.TheVariants.{Faulted}
use Rattle.xv_base.specs.declared.limits.Fault.TheVariants.{SourceWrite as FailWrite}
use Rattle.xv_base.specs.declared.event.Phase.TheVariants.{Running}
use Rattle.xv_base.specs.declared.event.Totals.{Totals}

abbrev pub guest_own_fault_job : Job
guest_own_fault_job =
    let machine : Shape = record { pages = 1; page_size = 16; disks = (record { blocks = 4; block_size = 16 } ∷ []) } in
    record {
      shape = machine;
      copy = machine;
      format = 1;
      group = 1;
      config = record { streams = 3; credit = 8; outbox = 8; region = 1; rounds = 2; dirty = 0; cancel = None };
      faults = (FailWrite 1 ∷ []);
      init = [];
      traces = ((op 1 0 16 (Some (187 ∷ [])) ∷ op 1 0 4 None ∷ []) ∷ []);
      start = first_start;
    }

abbrev pub guest_own_fault_events : List Event
guest_own_fault_events =
    Begin 0
    ∷ Read 0
    ∷ Advance 0
    ∷ guest 0
    ∷ guest 0
    ∷ []

abbrev pub guest_own_fault_turns : List Turn
guest_own_fault_turns =
    done 1 0
    ∷ done 1 0
    ∷ done 1 0
    ∷ Faulted
    ∷ done 4 0
    ∷ []

abbrev pub guest_own_fault_totals : Totals
guest_own_fault_totals = record { phase = Running; history = 2; faulted = 1; journal = 5; stun = None; copied = 1; rounds = 0; messages = 1; mirrors = 0; applied = 0; credit = 8 }

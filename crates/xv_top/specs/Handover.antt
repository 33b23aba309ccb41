-- How `handover` refuses what it reads, and what it writes.
use Rattle.std.specs.Prelude.{◌≡◌, ℕ, List, Option, None, IfSome}
use Rattle.xv_base.specs.declared.text.LineFault.{LineFault}
use Rattle.xv_handover.specs.Lines.{script_text, world_text}
use Rattle.xv_handover.specs.Script.{text_fault, IsScript}
use Rattle.xv_handover.specs.declared.world.WorldEvent.{WorldEvent}
use Rattle.xv_top.specs.Refused.{too_long_or}
use Rattle.xv_top.specs.Outcome.{Outcome, ReadsAll, WritesAll, WritesFront}

-- an input is refused by its length, or by the first faulty line of its script
abbrev pub handover_fault : List ℕ → Option LineFault
handover_fault bytes = too_long_or bytes (text_fault bytes)

-- these bytes are refused nowhere, and are the text of a script of these events
pub record IsHandover (bytes : List ℕ) (events : List WorldEvent) : Type 0 where
  pub no_fault : handover_fault bytes ≡ None
  pub script : IsScript events
  pub text : bytes ≡ script_text events

-- the input is a script, and what the world of its events prints was written
pub record IsHandedOver (o : Outcome) : Type 0 where
  pub events : List WorldEvent
  pub read : ReadsAll o.input
  pub input : IfSome o.input.before (λ xs. IsHandover xs events)
  pub output : WritesAll o.output (world_text events)

-- the input is a script, and the output failed at what its world prints
pub record IsHandoverCut (o : Outcome) : Type 0 where
  pub events : List WorldEvent
  pub input : IfSome o.input.before (λ xs. IsHandover xs events)
  pub output : WritesFront o.output (world_text events)

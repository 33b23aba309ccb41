-- Two real nodes and the messages that were sent, as the world that they are.
use Rattle.std.specs.Prelude.{List}
use Rattle.xv_handover.specs.declared.message.Message.{Message}
use Rattle.xv_handover.specs.declared.message.Reply.{Reply}
use Rattle.xv_handover.specs.declared.message.Reply.TheVariants.{Done, NotNow, Failed}
use Rattle.xv_handover.specs.declared.kept.KeptB.{KeptB}
use Rattle.xv_handover.specs.Tables.{SideA}
use Rattle.xv_handover.specs.Answers.{Seen}
use Rattle.xv_handover.specs.World.{Both, posted}

abbrev pub shown : Seen SideA → Seen KeptB → List Message → Both
shown a b sent = record { a = a.side.kept; offered = a.side.offered; b = b.side; sent = sent }

-- the messages after a reply
abbrev pub posted_by : List Message → Reply → List Message
posted_by sent (Done sends) = posted sent sends
posted_by sent NotNow = sent
posted_by sent Failed = sent

-- The text of a handover's script, and what is printed for it: each event with its answer, then both nodes.
use Rattle.std.specs.Prelude.{ℕ, Bool, true, false, List, [], ◌∷◌, ◌++◌, codes, decimal, None, Some}
use Rattle.xv_handover.specs.declared.message.Message.{Message}
use Rattle.xv_handover.specs.declared.message.Kind.{Kind}
use Rattle.xv_handover.specs.declared.message.Kind.TheVariants.{Prepare, Ready, Commit, Abort}
use Rattle.xv_handover.specs.declared.message.Reply.{Reply}
use Rattle.xv_handover.specs.declared.message.Reply.TheVariants.{Done, NotNow, Failed}
use Rattle.xv_handover.specs.declared.kept.KeptA.{KeptA}
use Rattle.xv_handover.specs.declared.kept.KeptB.{KeptB}
use Rattle.xv_handover.specs.declared.kept.Stage.{Stage}
use Rattle.xv_handover.specs.declared.kept.Stage.TheVariants.{Idle, Prepared, Owner}
use Rattle.xv_handover.specs.declared.world.WorldEvent.{WorldEvent}
use Rattle.xv_handover.specs.declared.world.WorldEvent.TheVariants.{WriteA, WriteB, Image, Offer, Withdraw, ResendA, ResendB, RestartA, RestartB, Pass}
use Rattle.xv_handover.specs.World.{Both, first_world, replies, world_after}

-- an event in words
abbrev pub event_words : WorldEvent → List ℕ
event_words WriteA = codes "write a"
event_words WriteB = codes "write b"
event_words (Image number) = codes "image " ++ decimal number
event_words Offer = codes "offer"
event_words Withdraw = codes "withdraw"
event_words ResendA = codes "resend a"
event_words ResendB = codes "resend b"
event_words RestartA = codes "restart a"
event_words RestartB = codes "restart b"
event_words (Pass number) = codes "pass " ++ decimal number

-- a script's text: a line for each event, and `stop`
abbrev pub script_text : List WorldEvent → List ℕ
script_text [] = codes "stop" ++ 10 ∷ []
script_text (e ∷ es) = event_words e ++ 10 ∷ script_text es

-- a message in words: its kind, its attempt and its number
abbrev pub kind_words : Kind → List ℕ
kind_words Prepare = codes "prepare"
kind_words Ready = codes "ready"
kind_words Commit = codes "commit"
kind_words Abort = codes "abort"

abbrev pub message_words : Message → List ℕ
message_words m = kind_words m.kind ++ 32 ∷ decimal m.attempt ++ 32 ∷ decimal m.number

-- what an event waits for: a pass for a message of its number, and a call of a node for another time
abbrev pub wait_words : WorldEvent → List ℕ
wait_words WriteA = codes "not-now"
wait_words WriteB = codes "not-now"
wait_words (Image number) = codes "not-now"
wait_words Offer = codes "not-now"
wait_words Withdraw = codes "not-now"
wait_words ResendA = codes "not-now"
wait_words ResendB = codes "not-now"
wait_words RestartA = codes "not-now"
wait_words RestartB = codes "not-now"
wait_words (Pass number) = codes "nothing-there"

-- an answer in words, with the message that was sent
abbrev pub reply_words : WorldEvent → Reply → List ℕ
reply_words event (Done None) = codes "done"
reply_words event (Done (Some m)) = codes "done " ++ message_words m
reply_words event NotNow = codes "wait " ++ wait_words event
reply_words event Failed = codes "failed"

-- the line of an event and its answer
abbrev pub reply_line : WorldEvent → Reply → List ℕ
reply_line event reply = event_words event ++ 32 ∷ reply_words event reply ++ 10 ∷ []

-- how node A stands: whether the guest is gone, and whether an offer stands
abbrev pub side_words : Bool → Bool → List ℕ
side_words true offered = codes "gone"
side_words false true = codes "offered"
side_words false false = codes "owner"

abbrev pub stage_words : Stage → List ℕ
stage_words Idle = codes "idle"
stage_words Prepared = codes "prepared"
stage_words Owner = codes "owner"

-- the lines of both nodes: how each stands, its attempt and its number
abbrev pub a_line : KeptA → Bool → List ℕ
a_line a offered = codes "a " ++ side_words a.gone offered ++ 32 ∷ decimal a.attempt ++ 32 ∷ decimal a.number ++ 10 ∷ []

abbrev pub b_line : KeptB → List ℕ
b_line b = codes "b " ++ stage_words b.stage ++ 32 ∷ decimal b.attempt ++ 32 ∷ decimal b.number ++ 10 ∷ []

abbrev pub nodes_text : Both → List ℕ
nodes_text w = a_line w.a w.offered ++ b_line w.b

-- the lines of events, each with its answer
abbrev pub transcript : List WorldEvent → List Reply → List ℕ
transcript [] told = []
transcript (e ∷ es) [] = []
transcript (e ∷ es) (r ∷ rs) = reply_line e r ++ transcript es rs

-- what a script prints: the answers of the world to its events from the beginning, and the nodes as they then stand
abbrev pub world_text : List WorldEvent → List ℕ
world_text events = transcript events (replies first_world events) ++ nodes_text (world_after first_world events)

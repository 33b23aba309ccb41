-- The lines of a script, and the lines that its events answer.
use Rattle.std.specs.Prelude.{ℕ, nat_lt, List, [], ◌∷◌, ◌++◌, codes, decimal, if◌then◌else◌}
use Rattle.xv_base.specs.declared.event.Event.{Event}
use Rattle.xv_base.specs.declared.event.Probe.{Probe}
use Rattle.xv_base.specs.declared.event.Side.{Side}
use Rattle.xv_base.specs.declared.event.Side.TheVariants.{Ahead, Inside, Behind, Dirty, Waiting, Clean}
use Rattle.xv_base.specs.declared.event.Event.TheVariants.{Guest, Begin, Read, Advance, Release, Round, Page, Send, Deliver, Apply, Ack, Credit, Stun, Switch, Cancel}
use Rattle.xv_base.specs.declared.answer.Note.{Note}
use Rattle.xv_base.specs.declared.answer.Turn.{Turn}
use Rattle.xv_base.specs.declared.answer.Turn.TheVariants.{Done, Queued, Faulted, Wait, Failed}
use Rattle.xv_base.specs.declared.answer.Why.{Why}
use Rattle.xv_base.specs.declared.answer.Why.TheVariants.{TraceEnd, InQueue, CancelDue, Stunned, Throttled, NoCredit, NothingThere, NotNow}
use Rattle.xv_base.specs.declared.answer.Cause.{Cause}
use Rattle.xv_base.specs.declared.answer.Cause.TheVariants.{SourceRead, DestWrite, Flush, Put, Take, AckPut, AckTake}
use Rattle.xv_base.specs.Hex.{hex}
use Rattle.xv_text.specs.Lines.{line}
use Rattle.xv_script.specs.declared.line.Line.{Line}
use Rattle.xv_script.specs.declared.line.Line.TheVariants.{Step, Ask}

-- an event in words
abbrev pub event_words : Event → List ℕ
event_words (Guest g) = codes "guest " ++ decimal g.0
event_words (Begin d) = codes "begin " ++ decimal d
event_words (Read d) = codes "read " ++ decimal d
event_words (Advance d) = codes "advance " ++ decimal d
event_words (Release d) = codes "release " ++ decimal d
event_words Round = codes "round"
event_words Page = codes "page"
event_words (Send s) = codes "send " ++ decimal s
event_words (Deliver s) = codes "deliver " ++ decimal s
event_words Apply = codes "apply"
event_words Ack = codes "ack"
event_words Credit = codes "credit"
event_words Stun = codes "stun"
event_words Switch = codes "switch"
event_words Cancel = codes "cancel"

-- what a wait is for
abbrev pub why_words : Why → List ℕ
why_words TraceEnd = codes "trace-end"
why_words InQueue = codes "in-queue"
why_words CancelDue = codes "cancel-due"
why_words Stunned = codes "stunned"
why_words Throttled = codes "throttled"
why_words NoCredit = codes "no-credit"
why_words NothingThere = codes "nothing-there"
why_words NotNow = codes "not-now"

-- the call that failed
abbrev pub cause_words : Cause → List ℕ
cause_words SourceRead = codes "source-read"
cause_words DestWrite = codes "dest-write"
cause_words Flush = codes "flush"
cause_words (Put s) = codes "put " ++ decimal s
cause_words (Take s) = codes "take " ++ decimal s
cause_words AckPut = codes "ack-put"
cause_words AckTake = codes "ack-take"

-- what an event that is done tells: one number, or two
abbrev pub done_one : Note → List ℕ
done_one note = codes "done " ++ decimal note.a

abbrev pub done_two : Note → List ℕ
done_two note = codes "done " ++ decimal note.a ++ 32 ∷ decimal note.b

-- a guest's event that is done: a read, which has a length, with the bytes read
abbrev pub done_guest : Note → List ℕ → List ℕ
done_guest note read = if nat_lt 0 note.a then codes "read " ++ hex read else codes "done"

abbrev pub done_text : Event → Note → List ℕ → List ℕ
done_text (Guest g) note read = done_guest note read
done_text (Begin d) note read = done_one note
done_text (Read d) note read = done_one note
done_text (Advance d) note read = done_one note
done_text (Release d) note read = done_one note
done_text Round note read = done_one note
done_text Page note read = done_two note
done_text (Send s) note read = done_two note
done_text (Deliver s) note read = done_two note
done_text Apply note read = done_two note
done_text Ack note read = done_one note
done_text Credit note read = done_one note
done_text Stun note read = done_one note
done_text Switch note read = codes "done"
done_text Cancel note read = codes "done"

-- an answer in words; `read` are the bytes that a guest read
abbrev pub turn_text : Event → Turn → List ℕ → List ℕ
turn_text event (Done note) read = done_text event note read
turn_text event Queued read = codes "queued"
turn_text event Faulted read = codes "faulted"
turn_text event (Wait why) read = codes "wait " ++ why_words why
turn_text event (Failed cause) read = codes "failed " ++ cause_words cause

-- the line of an event and its answer
abbrev pub turn_line : Event → Turn → List ℕ → List ℕ
turn_line event turn read = event_words event ++ 32 ∷ turn_text event turn read ++ 10 ∷ []

-- where a unit stands
abbrev pub side_words : Side → List ℕ
side_words Ahead = codes "ahead"
side_words Inside = codes "inside"
side_words Behind = codes "behind"
side_words Dirty = codes "dirty"
side_words Waiting = codes "waiting"
side_words Clean = codes "clean"

-- the line of what is asked of a unit: where it stands, its versions made and written, and its messages in the outbox,
-- on the streams and held
abbrev pub probe_fields : Probe → List (List ℕ)
probe_fields p =
    codes "probe"
    ∷ decimal p.unit.0
    ∷ side_words p.side
    ∷ decimal p.issued
    ∷ decimal p.applied
    ∷ decimal p.outbox
    ∷ decimal p.wires
    ∷ decimal p.held
    ∷ []

abbrev pub probe_line : Probe → List ℕ
probe_line p = line (probe_fields p)

-- a line of a script: an event, or a unit that is asked for
abbrev pub line_words : Line → List ℕ
line_words (Step event) = event_words event
line_words (Ask unit) = codes "probe " ++ decimal unit.0

-- a script's text: its lines, and `stop`
abbrev pub script_text : List Line → List ℕ
script_text [] = codes "stop" ++ 10 ∷ []
script_text (l ∷ ls) = line_words l ++ 10 ∷ script_text ls

-- the events of a script, in order
abbrev pub events_of : List Line → List Event
events_of [] = []
events_of (Step event ∷ ls) = event ∷ events_of ls
events_of (Ask unit ∷ ls) = events_of ls

-- One step of the machine, the calls on the outside, and whole runs.
use Rattle.std.specs.Prelude.{ℕ, ◌+◌, ◌==◌, ◌&&◌, not, Bool, true, false, List, [], ◌∷◌, ◌++◌, Option, Some, None, is_some, count_by, if◌then◌else◌}
use Rattle.std.specs.List.{list_any}
use Rattle.xv_model.specs.Job.{Job, Fault}
use Rattle.xv_model.specs.View.{View, first_view, is_switched}
use Rattle.xv_model.specs.Wait.{Event, Why, wait, next_operation, next_aim, is_join}
use Rattle.xv_model.specs.Effect.{Turn, Note, effect, fault_effect, answer, fault_answer}
use Rattle.xv_base.specs.declared.event.Event.TheVariants.{Guest, Begin, Read, Advance, Release, Round, Page, Send, Deliver, Apply, Ack, Credit, Stun, Switch, Cancel}
use Rattle.xv_base.specs.declared.answer.Turn.TheVariants.{Done, Queued, Faulted, Wait, Failed}
use Rattle.xv_base.specs.declared.answer.Cause.{Cause}
use Rattle.xv_base.specs.declared.answer.Cause.TheVariants.{SourceRead as ReadBroke, DestWrite as WriteBroke, Flush as FlushBroke, Put as PutBroke, Take as TakeBroke, AckPut as AckPutBroke, AckTake as AckTakeBroke}
use Rattle.xv_base.specs.declared.limits.Fault.TheVariants.{SourceRead as FailRead, SourceWrite as FailWrite, DestRead as FailDestRead, DestWrite as FailDestWrite, Flush as FailFlush, Put as FailPut, Take as FailTake, AckPut as FailAckPut, AckTake as FailAckTake}
pub use Rattle.xv_base.specs.declared.answer.Entry.{Entry}
pub use Rattle.xv_model.specs.Call.{Call, NoCall, SourceRead, SourceWrite, DestRead, DestWrite, DestFlush, Put, Take, AckPut, AckTake, same_call, is_call}

-- a guest's call: on the destination once it is switched, else on the source; none where the write is queued
abbrev pub guest_call : Bool → Bool → Bool → Call
guest_call queued switched writes =
    if queued then NoCall
    else (if switched then (if writes then DestWrite else DestRead) else (if writes then SourceWrite else SourceRead))

-- the call that an event makes where it goes on
abbrev pub call : Job → View → Event → Call
call job v (Guest g) = guest_call (is_join (next_aim job v g.0)) (is_switched v.phase) (is_some (next_operation job v g.0).write)
call job v (Begin d) = NoCall
call job v (Read d) = SourceRead
call job v (Advance d) = NoCall
call job v (Release d) = SourceWrite
call job v Round = NoCall
call job v Page = SourceRead
call job v (Send s) = Put s
call job v (Deliver s) = Take s
call job v Apply = DestWrite
call job v Ack = AckPut
call job v Credit = AckTake
call job v Stun = NoCall
call job v Switch = DestFlush
call job v Cancel = NoCall

-- Whether an event's failing flag counts: it does where the event makes a call.
abbrev pub breaks : Job → View → Event → Bool → Bool
breaks job v event flag = flag && is_call (call job v event)

-- One step, once it is known what the event waits for.
abbrev pub view_by : Option Why → Bool → Job → View → Event → View
view_by (Some why) broken job v event = v
view_by None false job v event = effect job v event
view_by None true job v event = fault_effect v event

abbrev pub turn_by : Option Why → Bool → Job → View → Event → Turn
turn_by (Some why) broken job v event = Wait why
turn_by None false job v event = answer job v event
turn_by None true job v event = fault_answer event

-- the view after an event, and its answer
abbrev pub step : Job → View → Event → Bool → View
step job v event flag = view_by (wait job v event flag) (breaks job v event flag) job v event

abbrev pub turn : Job → View → Event → Bool → Turn
turn job v event flag = turn_by (wait job v event flag) (breaks job v event flag) job v event

-- whether an answer says that a call failed, and whether it is a wait
abbrev pub is_flagged : Turn → Bool
is_flagged (Done n) = false
is_flagged Queued = false
is_flagged Faulted = true
is_flagged (Wait why) = false
is_flagged (Failed cause) = true

abbrev pub is_wait : Turn → Bool
is_wait (Done n) = false
is_wait Queued = false
is_wait Faulted = false
is_wait (Wait why) = true
is_wait (Failed cause) = false

-- whether an answer tells of a call on the outside
abbrev pub went_out : Turn → Bool
went_out (Done n) = true
went_out Queued = false
went_out Faulted = true
went_out (Wait why) = false
went_out (Failed cause) = true

-- the view after a journal, each entry's call failing where its answer says so
abbrev pub after : Job → View → List Entry → View
after job v [] = v
after job v (e ∷ es) = after job (step job v e.event (is_flagged e.turn)) es

abbrev pub run : Job → List Entry → View
run job journal = after job (first_view job) journal

-- equal answers
abbrev pub same_note : Note → Note → Bool
same_note m n = (m.a == n.a) && (m.b == n.b)

abbrev pub same_cause : Cause → Cause → Bool
same_cause ReadBroke ReadBroke = true
same_cause WriteBroke WriteBroke = true
same_cause FlushBroke FlushBroke = true
same_cause (PutBroke s) (PutBroke t) = s == t
same_cause (TakeBroke s) (TakeBroke t) = s == t
same_cause AckPutBroke AckPutBroke = true
same_cause AckTakeBroke AckTakeBroke = true
same_cause c d = false

-- equal answers, of those that are no wait
abbrev pub same_turn : Turn → Turn → Bool
same_turn (Done m) (Done n) = same_note m n
same_turn Queued Queued = true
same_turn Faulted Faulted = true
same_turn (Failed c) (Failed d) = same_cause c d
same_turn s t = false

-- whether a journal is a run from a view: each entry has the answer that the step gives there, and none is a wait
abbrev pub is_run_from : Job → View → List Entry → Bool
is_run_from job v [] = true
is_run_from job v (e ∷ es) =
    same_turn e.turn (turn job v e.event (is_flagged e.turn)) && is_run_from job (step job v e.event (is_flagged e.turn)) es

abbrev pub is_run : Job → List Entry → Bool
is_run job journal = is_run_from job (first_view job) journal

-- the calls that a journal's entries make, from a view on
abbrev pub calls_from : Job → View → List Entry → List Call
calls_from job v [] = []
calls_from job v (e ∷ es) = call job v e.event ∷ calls_from job (step job v e.event (is_flagged e.turn)) es

abbrev pub calls : Job → List Entry → List Call
calls job journal = calls_from job (first_view job) journal

-- a planned fault as the kind of the call and its number
abbrev pub fault_call : Fault → Call
fault_call (FailRead k) = SourceRead
fault_call (FailWrite k) = SourceWrite
fault_call (FailDestRead k) = DestRead
fault_call (FailDestWrite k) = DestWrite
fault_call (FailFlush k) = DestFlush
fault_call (FailPut s k) = Put s
fault_call (FailTake s k) = Take s
fault_call (FailAckPut k) = AckPut
fault_call (FailAckTake k) = AckTake

abbrev pub fault_number : Fault → ℕ
fault_number (FailRead k) = k
fault_number (FailWrite k) = k
fault_number (FailDestRead k) = k
fault_number (FailDestWrite k) = k
fault_number (FailFlush k) = k
fault_number (FailPut s k) = k
fault_number (FailTake s k) = k
fault_number (FailAckPut k) = k
fault_number (FailAckTake k) = k

-- whether the faults name the next call of a kind, after these calls
abbrev pub is_planned : List Fault → List Call → Call → Bool
is_planned faults calls c =
    is_call c && list_any (λ f. same_call (fault_call f) c && (fault_number f == count_by (same_call c) calls + 1)) faults

abbrev pub same_truth : Bool → Bool → Bool
same_truth true b = b
same_truth false b = not b

-- whether a journal's entries are flagged exactly where the faults name the number of their call
abbrev pub is_faithful_from : Job → View → List Call → List Entry → Bool
is_faithful_from job v calls [] = true
is_faithful_from job v calls (e ∷ es) =
    same_truth (is_flagged e.turn) (is_planned job.faults calls (call job v e.event))
    && is_faithful_from job (step job v e.event (is_flagged e.turn)) (calls ++ call job v e.event ∷ []) es

abbrev pub is_faithful : Job → List Entry → Bool
is_faithful job journal = is_faithful_from job (first_view job) [] journal

-- The flag that the planned faults give an event: an event that would wait makes no numbered call.
abbrev pub flag_by : Option Why → Job → View → List Call → Event → Bool
flag_by (Some why) job v calls event = false
flag_by None job v calls event = is_planned job.faults calls (call job v event)

abbrev pub flag : Job → View → List Call → Event → Bool
flag job v calls event = flag_by (wait job v event false) job v calls event

-- the entry that an event adds to the journal, and the call that it adds to the calls
abbrev pub entry_of : Event → Turn → List Entry
entry_of event t = if is_wait t then [] else record { event = event; turn = t } ∷ []

abbrev pub call_of : Job → View → Event → Turn → List Call
call_of job v event t = if is_wait t then [] else call job v event ∷ []

-- the answers of a list of events, each flagged where the planned faults name its call
abbrev pub turns_from : Job → View → List Call → List Event → List Turn
turns_from job v calls [] = []
turns_from job v calls (e ∷ es) =
    let t = turn job v e (flag job v calls e) in
    t ∷ turns_from job (step job v e (flag job v calls e)) (calls ++ call_of job v e t) es

abbrev pub turns : Job → List Event → List Turn
turns job events = turns_from job (first_view job) [] events

-- the journal that they make
abbrev pub entries_of : List Event → List Turn → List Entry
entries_of [] ts = []
entries_of (e ∷ es) [] = []
entries_of (e ∷ es) (t ∷ ts) = entry_of e t ++ entries_of es ts

abbrev pub play : Job → List Event → List Entry
play job events = entries_of events (turns job events)

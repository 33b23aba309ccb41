-- The words that lines of a job begin with, what follows each, and which may come where.
use Rattle.std.specs.Prelude.{ℕ, ◌+◌, ◌==◌, ◌&&◌, ◌||◌, nat_lt, nat_le, not, Bool, true, false, List, [], ◌∷◌, codes, Option, Some, None, if◌then◌else◌}
use Rattle.xv_text.specs.declared.row.Kind.{Kind}
use Rattle.xv_text.specs.declared.row.Kind.TheVariants.{Number, Bytes}
use Rattle.xv_trace.specs.declared.op.Verb.{Verb}
use Rattle.xv_trace.specs.OpText.{verb_of, kinds_of}
use Rattle.xv_text.specs.Words.{is_spelled}
use Rattle.xv_job.specs.declared.word.Word.{Word}
use Rattle.xv_job.specs.declared.word.Call.{Call}
use Rattle.xv_job.specs.declared.word.Call.TheVariants.{SourceRead, SourceWrite, DestRead, DestWrite, Flush, Put, Take, AckPut, AckTake}
use Rattle.xv_job.specs.declared.word.Word.TheVariants.{Job, Pages, Disk, Streams, Credit, Outbox, Region, Rounds, Dirty, Group, Cancel, Fault, Init, Guest, Operation, End}

-- the words of a job's own lines; those of operations are known behind the first guest
abbrev pub own_word : List ℕ → Option Word
own_word word =
    if is_spelled (codes "job") word then Some Job
    else (if is_spelled (codes "pages") word then Some Pages
    else (if is_spelled (codes "disk") word then Some Disk
    else (if is_spelled (codes "streams") word then Some Streams
    else (if is_spelled (codes "credit") word then Some Credit
    else (if is_spelled (codes "outbox") word then Some Outbox
    else (if is_spelled (codes "region") word then Some Region
    else (if is_spelled (codes "rounds") word then Some Rounds
    else (if is_spelled (codes "dirty") word then Some Dirty
    else (if is_spelled (codes "group") word then Some Group
    else (if is_spelled (codes "cancel") word then Some Cancel
    else (if is_spelled (codes "fault") word then Some Fault
    else (if is_spelled (codes "init") word then Some Init
    else (if is_spelled (codes "guest") word then Some Guest
    else (if is_spelled (codes "end") word then Some End
    else None))))))))))))))

abbrev pub or_operation : Option Word → Option Verb → Option Word
or_operation (Some word) verb = Some word
or_operation None (Some verb) = Some (Operation verb)
or_operation None None = None

abbrev pub word_of : Bool → List ℕ → Option Word
word_of in_traces word = or_operation (own_word word) (if in_traces then verb_of word else None)

-- the order of the lines, from 1; 0 is before the first
abbrev pub rank : Word → ℕ
rank Job = 1
rank Pages = 2
rank Disk = 3
rank Streams = 4
rank Credit = 5
rank Outbox = 6
rank Region = 7
rank Rounds = 8
rank Dirty = 9
rank Group = 10
rank Cancel = 11
rank Fault = 12
rank Init = 13
rank Guest = 14
rank (Operation verb) = 14
rank End = 15

-- the lines that may stand several times in a row
abbrev pub repeats : Word → Bool
repeats Job = false
repeats Pages = false
repeats Disk = true
repeats Streams = false
repeats Credit = false
repeats Outbox = false
repeats Region = false
repeats Rounds = false
repeats Dirty = false
repeats Group = false
repeats Cancel = false
repeats Fault = true
repeats Init = true
repeats Guest = true
repeats (Operation verb) = true
repeats End = false

-- the next line that may not be missing, behind a line of this rank; a group is said in job format 2 alone
abbrev pub needed : ℕ → ℕ → ℕ
needed format last =
    if nat_lt last 2 then last + 1
    else (if nat_lt last 4 then 4
    else (if nat_lt last 9 then last + 1
    else (if last == 9 then (if format == 2 then 10 else 14)
    else (if nat_lt last 14 then 14
    else 15))))

abbrev pub is_group : Word → Bool
is_group word = rank word == 10

abbrev pub may_come : ℕ → ℕ → Word → Bool
may_come format last word =
    (nat_lt last (rank word) || (last == rank word && repeats word))
    && nat_le (rank word) (needed format last)
    && (format == 2 || not (is_group word))

-- what follows a word, but for a job's format and a fault
abbrev pub kinds : Word → List Kind
kinds Job = []
kinds Pages = Number ∷ Number ∷ []
kinds Disk = Number ∷ Number ∷ []
kinds Streams = Number ∷ []
kinds Credit = Number ∷ []
kinds Outbox = Number ∷ []
kinds Region = Number ∷ []
kinds Rounds = Number ∷ []
kinds Dirty = Number ∷ []
kinds Group = Number ∷ []
kinds Cancel = Number ∷ []
kinds Fault = []
kinds Init = Number ∷ Bytes ∷ []
kinds Guest = []
kinds (Operation verb) = kinds_of verb
kinds End = []

-- the words of the calls that may be planned to fail, and what follows each
abbrev pub call_of : List ℕ → Option Call
call_of word =
    if is_spelled (codes "sread") word then Some SourceRead
    else (if is_spelled (codes "swrite") word then Some SourceWrite
    else (if is_spelled (codes "dread") word then Some DestRead
    else (if is_spelled (codes "dwrite") word then Some DestWrite
    else (if is_spelled (codes "flush") word then Some Flush
    else (if is_spelled (codes "put") word then Some Put
    else (if is_spelled (codes "take") word then Some Take
    else (if is_spelled (codes "ackput") word then Some AckPut
    else (if is_spelled (codes "acktake") word then Some AckTake
    else None))))))))

abbrev pub call_kinds : Call → List Kind
call_kinds SourceRead = Number ∷ []
call_kinds SourceWrite = Number ∷ []
call_kinds DestRead = Number ∷ []
call_kinds DestWrite = Number ∷ []
call_kinds Flush = Number ∷ []
call_kinds Put = Number ∷ Number ∷ []
call_kinds Take = Number ∷ Number ∷ []
call_kinds AckPut = Number ∷ []
call_kinds AckTake = Number ∷ []

-- whether a word is an operation's
abbrev pub is_operation : Word → Bool
is_operation Job = false
is_operation Pages = false
is_operation Disk = false
is_operation Streams = false
is_operation Credit = false
is_operation Outbox = false
is_operation Region = false
is_operation Rounds = false
is_operation Dirty = false
is_operation Group = false
is_operation Cancel = false
is_operation Fault = false
is_operation Init = false
is_operation Guest = false
is_operation (Operation verb) = true
is_operation End = false

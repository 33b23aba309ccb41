-- A job as far as its lines have been read; what is wrong with a line, and the draft after it.
use Rattle.std.specs.Prelude.{ℕ, ◌+◌, ◌-◌, ◌^◌, ◌==◌, ◌&&◌, ◌||◌, nat_lt, nat_le, not, Bool, true, false, List, [], ◌∷◌, ◌++◌, length, get_or, take, sum_by, codes, Option, Some, None, if◌then◌else◌}
use Rattle.std.specs.List.{list_any}
use Rattle.xv_base.specs.declared.text.LineWhy.{LineWhy}
use Rattle.xv_base.specs.declared.text.LineWhy.TheVariants.{BadWord, Order, Limit, OutOfRange, TooMany}
use Rattle.xv_base.specs.declared.limits.Config.{Config}
use Rattle.xv_base.specs.declared.limits.Fault.{Fault}
use Rattle.xv_base.specs.declared.limits.Fault.TheVariants.{SourceRead, SourceWrite, DestRead, DestWrite, Flush, Put, Take, AckPut, AckTake}
use Rattle.xv_base.specs.declared.pattern.Init.{Init}
use Rattle.xv_base.specs.Units.{Shape, units, all_bytes}
use Rattle.xv_base.specs.Layout.{is_unit_size}
use Rattle.xv_text.specs.Fields.{Values, values, number_at, fields_fault, or_else, fault_if}
use Rattle.xv_text.specs.Reading.{Reader}
use Rattle.xv_trace.specs.declared.op.Op.{Op}
use Rattle.xv_trace.specs.Operations.{op_fault, op_count, count_all}
use Rattle.xv_trace.specs.OpText.{kinds_of, op_of, head, tail}
use Rattle.xv_text.specs.Words.{is_spelled}
use Rattle.xv_job.specs.Written.{Written, fault_number}
use Rattle.xv_job.specs.Words.{word_of, rank, may_come, kinds, call_of, call_kinds}
use Rattle.xv_job.specs.declared.word.Call.{Call}
use Rattle.xv_job.specs.declared.word.Call.TheVariants.{SourceRead as SourceReadCall, SourceWrite as SourceWriteCall, DestRead as DestReadCall, DestWrite as DestWriteCall, Flush as FlushCall, Put as PutCall, Take as TakeCall, AckPut as AckPutCall, AckTake as AckTakeCall}
use Rattle.xv_job.specs.declared.word.Word.{Word}
use Rattle.xv_job.specs.declared.word.Word.TheVariants.{Job as JobWord, Pages, Disk, Streams, Credit, Outbox, Region, Rounds, Dirty, Group, Cancel, Fault as FaultWord, Init as InitWord, Guest, Operation, End}

-- the rank of the last line, and the job so far
pub record Draft : Type 0 where
  pub last : ℕ
  pub job : Written

abbrev pub first_draft : Draft
first_draft = record {
  last = 0;
  job = record {
    shape = record { pages = 0; page_size = 0; disks = [] };
    format = 1;
    group = 1;
    config = record { streams = 0; credit = 0; outbox = 0; region = 0; rounds = 0; dirty = 0; cancel = None };
    faults = [];
    init = [];
    traces = [];
  };
}

abbrev pub is_in_traces : Draft → Bool
is_in_traces d = d.last == 14

-- the fault that a call's numbers say
abbrev pub fault_of : Call → Values → Fault
fault_of SourceReadCall v = SourceRead (number_at v 0)
fault_of SourceWriteCall v = SourceWrite (number_at v 0)
fault_of DestReadCall v = DestRead (number_at v 0)
fault_of DestWriteCall v = DestWrite (number_at v 0)
fault_of FlushCall v = Flush (number_at v 0)
fault_of PutCall v = Put (number_at v 0) (number_at v 1)
fault_of TakeCall v = Take (number_at v 0) (number_at v 1)
fault_of AckPutCall v = AckPut (number_at v 0)
fault_of AckTakeCall v = AckTake (number_at v 0)

abbrev pub faults_said : Option Call → List (List ℕ) → List Fault
faults_said None args = []
faults_said (Some call) args = fault_of call (values (call_kinds call) args) ∷ []

abbrev pub is_stream_of : ℕ → Fault → Bool
is_stream_of streams (SourceRead k) = true
is_stream_of streams (SourceWrite k) = true
is_stream_of streams (DestRead k) = true
is_stream_of streams (DestWrite k) = true
is_stream_of streams (Flush k) = true
is_stream_of streams (Put s k) = nat_lt s streams
is_stream_of streams (Take s k) = nat_lt s streams
is_stream_of streams (AckPut k) = true
is_stream_of streams (AckTake k) = true

-- what is wrong with the fields behind a word: their number, an empty one, a format or a call that is not known; and
-- then the first that is no number or no bytes
abbrev pub format_fault : List (List ℕ) → Option LineWhy
format_fault args =
    fault_if (not (length args == 1 && (is_spelled (codes "1") (head args) || is_spelled (codes "2") (head args)))) BadWord

abbrev pub planned_fault : Option Call → List (List ℕ) → Option LineWhy
planned_fault None args = Some BadWord
planned_fault (Some call) args = fields_fault (call_kinds call) args

abbrev pub args_fault : Word → List (List ℕ) → Option LineWhy
args_fault JobWord args = format_fault args
args_fault Pages args = fields_fault (kinds Pages) args
args_fault Disk args = fields_fault (kinds Disk) args
args_fault Streams args = fields_fault (kinds Streams) args
args_fault Credit args = fields_fault (kinds Credit) args
args_fault Outbox args = fields_fault (kinds Outbox) args
args_fault Region args = fields_fault (kinds Region) args
args_fault Rounds args = fields_fault (kinds Rounds) args
args_fault Dirty args = fields_fault (kinds Dirty) args
args_fault Group args = fields_fault (kinds Group) args
args_fault Cancel args = fields_fault (kinds Cancel) args
args_fault FaultWord args = planned_fault (call_of (head args)) (tail args)
args_fault InitWord args = fields_fault (kinds InitWord) args
args_fault Guest args = fields_fault (kinds Guest) args
args_fault (Operation verb) args = fields_fault (kinds_of verb) args
args_fault End args = fields_fault (kinds End) args

-- a number that is not from `least` to `most`
abbrev pub outside : ℕ → ℕ → ℕ → ℕ → Option LineWhy
outside limit least most n = fault_if (nat_lt n least || nat_lt most n) (Limit limit)

-- a unit size that is none, more units than there may be, or more bytes
abbrev pub size_fault : ℕ → Option LineWhy
size_fault size = fault_if (not (is_unit_size size)) (Limit 3)

abbrev pub shape_fault : Shape → Option LineWhy
shape_fault s = or_else (outside 6 1 (2 ^ 20) (units s)) (fault_if (nat_lt (2 ^ 29) (all_bytes s)) (Limit 7))

-- the shape with these pages, and with a disk more
abbrev pub with_pages : Shape → ℕ → ℕ → Shape
with_pages s pages size = record { pages = pages; page_size = size; disks = s.disks }

abbrev pub with_disk : Shape → ℕ → ℕ → Shape
with_disk s blocks size = record { pages = s.pages; page_size = s.page_size; disks = s.disks ++ record { blocks = blocks; block_size = size } ∷ [] }

-- how many unit operations there are so far, and the unit of the last initial content, one more, or 0
abbrev pub operations_so_far : Written → ℕ
operations_so_far w = sum_by count_all w.traces

abbrev pub after_last : List Init → ℕ
after_last [] = 0
after_last (i ∷ []) = i.unit.0 + 1
after_last (i ∷ j ∷ more) = after_last (j ∷ more)

-- what is wrong with the numbers of a line
abbrev pub pages_fault : Written → ℕ → ℕ → Option LineWhy
pages_fault w pages size = or_else (outside 2 1 (2 ^ 20) pages) (or_else (size_fault size) (shape_fault (with_pages w.shape pages size)))

abbrev pub disk_fault : Written → ℕ → ℕ → Option LineWhy
disk_fault w blocks size =
    or_else (fault_if (nat_le 4 (length w.shape.disks)) (Limit 4))
    (or_else (outside 5 1 (2 ^ 20) blocks)
    (or_else (size_fault size) (shape_fault (with_disk w.shape blocks size))))

abbrev pub region_fault : Written → ℕ → Option LineWhy
region_fault w n = or_else (outside 11 1 256 n) (fault_if (nat_lt w.config.outbox n) (Limit 11))

-- the lines of one number, and what is wrong with it
abbrev pub is_limit : Word → Bool
is_limit JobWord = false
is_limit Pages = false
is_limit Disk = false
is_limit Streams = true
is_limit Credit = true
is_limit Outbox = true
is_limit Region = true
is_limit Rounds = true
is_limit Dirty = true
is_limit Group = true
is_limit Cancel = true
is_limit FaultWord = false
is_limit InitWord = false
is_limit Guest = false
is_limit (Operation verb) = false
is_limit End = false

abbrev pub limit_fault : Written → Word → ℕ → Option LineWhy
limit_fault w JobWord n = None
limit_fault w Pages n = None
limit_fault w Disk n = None
limit_fault w Streams n = outside 8 1 8 n
limit_fault w Credit n = outside 9 1 1024 n
limit_fault w Outbox n = outside 10 1 1024 n
limit_fault w Region n = region_fault w n
limit_fault w Rounds n = outside 12 1 64 n
limit_fault w Dirty n = outside 13 0 (2 ^ 20) n
limit_fault w Group n = outside 18 1 16 n
limit_fault w Cancel n = None
limit_fault w FaultWord n = None
limit_fault w InitWord n = None
limit_fault w Guest n = None
limit_fault w (Operation verb) n = None
limit_fault w End n = None

abbrev pub has_bad_number : ℕ → Fault → Bool
has_bad_number streams fault = fault_number fault == 0 || not (is_stream_of streams fault)

abbrev pub plan_fault : Written → List Fault → Option LineWhy
plan_fault w planned =
    or_else (fault_if (nat_le 32 (length w.faults)) (Limit 15))
    (fault_if (list_any (has_bad_number w.config.streams) planned) (Limit 16))

abbrev pub init_fault : Written → ℕ → Option LineWhy
init_fault w unit = or_else (fault_if (nat_le (units w.shape) unit) OutOfRange) (fault_if (nat_lt unit (after_last w.init)) Order)

abbrev pub operation_fault : Written → Op → Option LineWhy
operation_fault w op = or_else (op_fault w.shape op) (fault_if (nat_lt (2 ^ 20) (operations_so_far w + op_count op)) TooMany)

abbrev pub exceeds : Option ℕ → ℕ → Bool
exceeds None n = false
exceeds (Some k) n = nat_lt n k

abbrev pub numbers_fault : Written → Word → List (List ℕ) → Option LineWhy
numbers_fault w JobWord args = None
numbers_fault w Pages args = pages_fault w (number_at (values (kinds Pages) args) 0) (number_at (values (kinds Pages) args) 1)
numbers_fault w Disk args = disk_fault w (number_at (values (kinds Disk) args) 0) (number_at (values (kinds Disk) args) 1)
numbers_fault w Streams args = limit_fault w Streams (number_at (values (kinds Streams) args) 0)
numbers_fault w Credit args = limit_fault w Credit (number_at (values (kinds Credit) args) 0)
numbers_fault w Outbox args = limit_fault w Outbox (number_at (values (kinds Outbox) args) 0)
numbers_fault w Region args = limit_fault w Region (number_at (values (kinds Region) args) 0)
numbers_fault w Rounds args = limit_fault w Rounds (number_at (values (kinds Rounds) args) 0)
numbers_fault w Dirty args = limit_fault w Dirty (number_at (values (kinds Dirty) args) 0)
numbers_fault w Group args = limit_fault w Group (number_at (values (kinds Group) args) 0)
numbers_fault w Cancel args = limit_fault w Cancel (number_at (values (kinds Cancel) args) 0)
numbers_fault w FaultWord args = plan_fault w (faults_said (call_of (head args)) (tail args))
numbers_fault w InitWord args = init_fault w (number_at (values (kinds InitWord) args) 0)
numbers_fault w Guest args = fault_if (nat_le 16 (length w.traces)) (Limit 17)
numbers_fault w (Operation verb) args = operation_fault w (op_of verb (values (kinds_of verb) args))
numbers_fault w End args = fault_if (exceeds w.config.cancel (operations_so_far w)) (Limit 14)

-- the job with what a line says
abbrev pub with_op : List (List Op) → Op → List (List Op)
with_op traces op = take (length traces - 1) traces ++ (get_or traces (length traces - 1) [] ++ op ∷ []) ∷ []

abbrev pub with_limit : Word → ℕ → Config → Config
with_limit JobWord n c = c
with_limit Pages n c = c
with_limit Disk n c = c
with_limit Streams n c = record c { streams = n }
with_limit Credit n c = record c { credit = n }
with_limit Outbox n c = record c { outbox = n }
with_limit Region n c = record c { region = n }
with_limit Rounds n c = record c { rounds = n }
with_limit Dirty n c = record c { dirty = n }
with_limit Group n c = c
with_limit Cancel n c = record c { cancel = Some n }
with_limit FaultWord n c = c
with_limit InitWord n c = c
with_limit Guest n c = c
with_limit (Operation verb) n c = c
with_limit End n c = c

abbrev pub with_number : Written → Word → ℕ → Written
with_number w JobWord n = w
with_number w Pages n = w
with_number w Disk n = w
with_number w Streams n = record w { config = with_limit Streams n w.config }
with_number w Credit n = record w { config = with_limit Credit n w.config }
with_number w Outbox n = record w { config = with_limit Outbox n w.config }
with_number w Region n = record w { config = with_limit Region n w.config }
with_number w Rounds n = record w { config = with_limit Rounds n w.config }
with_number w Dirty n = record w { config = with_limit Dirty n w.config }
with_number w Group n = record w { group = n }
with_number w Cancel n = record w { config = with_limit Cancel n w.config }
with_number w FaultWord n = w
with_number w InitWord n = w
with_number w Guest n = w
with_number w (Operation verb) n = w
with_number w End n = w

abbrev pub said : Written → Word → List (List ℕ) → Written
said w JobWord args = record w { format = if is_spelled (codes "2") (head args) then 2 else 1 }
said w Pages args = record w { shape = with_pages w.shape (number_at (values (kinds Pages) args) 0) (number_at (values (kinds Pages) args) 1) }
said w Disk args = record w { shape = with_disk w.shape (number_at (values (kinds Disk) args) 0) (number_at (values (kinds Disk) args) 1) }
said w Streams args = with_number w Streams (number_at (values (kinds Streams) args) 0)
said w Credit args = with_number w Credit (number_at (values (kinds Credit) args) 0)
said w Outbox args = with_number w Outbox (number_at (values (kinds Outbox) args) 0)
said w Region args = with_number w Region (number_at (values (kinds Region) args) 0)
said w Rounds args = with_number w Rounds (number_at (values (kinds Rounds) args) 0)
said w Dirty args = with_number w Dirty (number_at (values (kinds Dirty) args) 0)
said w Group args = with_number w Group (number_at (values (kinds Group) args) 0)
said w Cancel args = with_number w Cancel (number_at (values (kinds Cancel) args) 0)
said w FaultWord args = record w { faults = w.faults ++ faults_said (call_of (head args)) (tail args) }
said w InitWord args = record w { init = w.init ++ record { unit = record { 0 = number_at (values (kinds InitWord) args) 0 }; pattern = (values (kinds InitWord) args).pattern } ∷ [] }
said w Guest args = record w { traces = w.traces ++ [] ∷ [] }
said w (Operation verb) args = record w { traces = with_op w.traces (op_of verb (values (kinds_of verb) args)) }
said w End args = w

-- what is wrong with a line, the first reason, and the draft after it
abbrev pub word_fault : Draft → Option Word → List (List ℕ) → Option LineWhy
word_fault d None args = Some BadWord
word_fault d (Some word) args =
    or_else (fault_if (not (may_come d.job.format d.last word)) Order)
    (or_else (args_fault word args) (numbers_fault d.job word args))

abbrev pub line_fault : Draft → List (List ℕ) → Option LineWhy
line_fault d fields = word_fault d (word_of (is_in_traces d) (head fields)) (tail fields)

abbrev pub draft_by : Draft → Option Word → List (List ℕ) → Draft
draft_by d None args = d
draft_by d (Some word) args = record { last = rank word; job = said d.job word args }

abbrev pub next_draft : Draft → List (List ℕ) → Draft
next_draft d fields = draft_by d (word_of (is_in_traces d) (head fields)) (tail fields)

abbrev pub is_complete : Draft → Bool
is_complete d = d.last == 15

-- what reads a job, of either job format
abbrev pub job_reader : Reader Draft
job_reader = record { is_ended = is_complete; fault = line_fault; next = next_draft }

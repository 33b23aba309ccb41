-- What is wrong with bytes that are to be a frame: the first fault in the order of their fields.
use Rattle.std.specs.Prelude.{ℕ, zero, suc, ◌+◌, ◌-◌, ◌==◌, nat_lt, ◌&&◌, ◌||◌, not, List, length, drop, Option, Some, None, Result, Ok, Err, if◌then◌else◌}
use Rattle.xv_base.specs.declared.limits.TheConstants.{MOST_CREDIT, MOST_GROUP, SINGLE_FORMAT, GROUP_FORMAT}
use Rattle.xv_base.specs.Units.{Shape, units, size}
use Rattle.xv_frame.specs.declared.codes.TheConstants.{HEAD_SIZE, ENTRY_HEAD_SIZE, MESSAGE_KIND, ACK_KIND, ZERO_MARK}
use Rattle.xv_frame.specs.declared.heads.Head.{Head}
use Rattle.xv_frame.specs.declared.heads.Head.TheVariants.{Unit as UnitHeadOf, Ack}
use Rattle.xv_frame.specs.declared.heads.FrameFault.{FrameFault}
use Rattle.xv_frame.specs.declared.heads.FrameFault.TheVariants as fault
use Rattle.xv_frame.specs.declared.groups.GroupFault.{GroupFault}
use Rattle.xv_frame.specs.declared.groups.GroupFault.TheVariants as group
use Rattle.xv_frame.specs.Fields.{byte_at, short_at, word_at, zero_at}
use Rattle.xv_frame.specs.Reading.{front_head, is_marked, entry_size}

-- of the head of a unit frame or of an acknowledgement
abbrev pub unit_fault : Shape → List ℕ → Option FrameFault
unit_fault s head =
    if not (zero_at head 2 2) then Some fault.NotZero
    else (if not (nat_lt (word_at head 4) (units s)) then Some fault.BadUnit
    else (if word_at head 8 == 0 then Some fault.BadVersion
    else (if not (word_at head 12 == size s (word_at head 4)) then Some fault.BadLength else None)))

abbrev pub ack_fault : List ℕ → Option FrameFault
ack_fault head =
    if not (zero_at head 2 6 && zero_at head 12 12) then Some fault.NotZero
    else (if (word_at head 8 == 0) || nat_lt MOST_CREDIT (word_at head 8) then Some fault.BadCount else None)

abbrev pub head_fault : Shape → List ℕ → Option FrameFault
head_fault s head =
    if not (byte_at head 0 == SINGLE_FORMAT) then Some fault.BadFormat
    else (if byte_at head 1 == MESSAGE_KIND then unit_fault s head
    else (if byte_at head 1 == ACK_KIND then ack_fault head else Some fault.BadKind))

-- what these bytes of a head are read as
abbrev pub head_or : Option FrameFault → Head → Result Head FrameFault
head_or (Some f) head = Err f
head_or None head = Ok head

abbrev pub read_head : Shape → List ℕ → Result Head FrameFault
read_head s head = head_or (head_fault s head) (if byte_at head 1 == ACK_KIND then Ack (word_at head 8) else UnitHeadOf (front_head head))

-- of the head that the bytes of a group begin with
abbrev pub group_head_fault : List ℕ → Option GroupFault
group_head_fault bytes =
    if nat_lt (length bytes) HEAD_SIZE then Some group.Short
    else (if not (byte_at bytes 0 == GROUP_FORMAT) then Some group.BadFormat
    else (if not (byte_at bytes 1 == MESSAGE_KIND) then Some group.BadKind
    else (if (short_at bytes 2 == 0) || nat_lt MOST_GROUP (short_at bytes 2) then Some group.BadCount
    else (if not (zero_at bytes 8 16) then Some group.NotZero else None))))

-- of the entry that bytes begin with, and of its content of that size
abbrev pub content_fault : ℕ → List ℕ → Option GroupFault
content_fault count bytes =
    if nat_lt (length bytes) (ENTRY_HEAD_SIZE + count) then Some group.Short
    else (if zero_at bytes ENTRY_HEAD_SIZE count then Some group.BadMark else None)

abbrev pub entry_fault : Shape → List ℕ → Option GroupFault
entry_fault s bytes =
    if nat_lt (length bytes) ENTRY_HEAD_SIZE then Some group.Short
    else (if not (nat_lt (word_at bytes 0) (units s)) then Some group.BadUnit
    else (if word_at bytes 4 == 0 then Some group.BadVersion
    else (if nat_lt ZERO_MARK (byte_at bytes 16) then Some group.BadMark
    else (if not (zero_at bytes 17 3) then Some group.NotZero
    else (if is_marked bytes then None else content_fault (size s (word_at bytes 0)) bytes)))))

-- the first of two faults that may be there
abbrev pub first_of : Option GroupFault → Option GroupFault → Option GroupFault
first_of (Some f) later = Some f
first_of None later = later

-- of so many entries, of which nothing may be left
abbrev pub entries_fault : Shape → ℕ → List ℕ → Option GroupFault
entries_fault s zero bytes = if length bytes == 0 then None else Some group.Long
entries_fault s (suc n) bytes = first_of (entry_fault s bytes) (entries_fault s n (drop (entry_size s bytes) bytes))

abbrev pub group_fault : Shape → List ℕ → Option GroupFault
group_fault s bytes =
    first_of (group_head_fault bytes)
    (if not (word_at bytes 4 == length bytes - HEAD_SIZE) then Some group.BadLength
    else entries_fault s (short_at bytes 2) (drop HEAD_SIZE bytes))

-- what the bytes are read as: how many entries there are
abbrev pub count_or : Option GroupFault → ℕ → Result ℕ GroupFault
count_or (Some f) count = Err f
count_or None count = Ok count

abbrev pub read_group : Shape → List ℕ → Result ℕ GroupFault
read_group s bytes = count_or (group_fault s bytes) (short_at bytes 2)

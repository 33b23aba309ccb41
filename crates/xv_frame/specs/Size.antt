-- How many bytes the frame has that a head begins.
use Rattle.std.specs.Prelude.{ℕ, ◌+◌, ◌==◌, List, Option, Some, None, Result, Ok, Err, if◌then◌else◌}
use Rattle.xv_base.specs.declared.limits.TheConstants.{GROUP_FORMAT}
use Rattle.xv_base.specs.Units.{Shape, size}
use Rattle.xv_frame.specs.declared.codes.TheConstants.{HEAD_SIZE}
use Rattle.xv_frame.specs.declared.heads.Head.{Head}
use Rattle.xv_frame.specs.declared.heads.Head.TheVariants.{Unit as UnitHeadOf, Ack}
use Rattle.xv_frame.specs.declared.heads.FrameFault.{FrameFault}
use Rattle.xv_frame.specs.declared.groups.GroupFault.{GroupFault}
use Rattle.xv_frame.specs.Fields.{byte_at, word_at}
use Rattle.xv_frame.specs.Faults.{read_head, group_head_fault}

abbrev pub size_of_head : Shape → Result Head FrameFault → Option ℕ
size_of_head s (Ok (UnitHeadOf h)) = Some (HEAD_SIZE + size s h.unit.0)
size_of_head s (Ok (Ack count)) = Some HEAD_SIZE
size_of_head s (Err f) = None

abbrev pub size_of_group : ℕ → Option GroupFault → Option ℕ
size_of_group bytes (Some f) = None
size_of_group bytes None = Some (HEAD_SIZE + bytes)

abbrev pub frame_size : Shape → List ℕ → Option ℕ
frame_size s head = if byte_at head 0 == GROUP_FORMAT then size_of_group (word_at head 4) (group_head_fault head) else size_of_head s (read_head s head)

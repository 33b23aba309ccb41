-- What the spellings of frames are to one another, and to what is read of them.
use Rattle.std.specs.Prelude.{◌≡◌, ℕ, List, ◌++◌, length, take, Some, Ok}
use Rattle.xv_base.specs.Units.{Shape}
use Rattle.xv_frame.specs.declared.codes.TheConstants.{HEAD_SIZE}
use Rattle.xv_frame.specs.declared.heads.Head.{Head}
use Rattle.xv_frame.specs.Frame.{Each, Message, Frame, GroupFrame, IsFrame, IsGroup, spelled, all_spelled}
use Rattle.xv_frame.specs.Heads.{IsHead, head_spelled}
use Rattle.xv_frame.specs.Faults.{read_head, read_group}
use Rattle.xv_frame.specs.Reading.{front_frame, frames_in}
use Rattle.xv_frame.specs.Size.{frame_size}

-- two spellings of which one is a prefix of the other, or that begin the same bytes, are those of one frame
abbrev pub HaveOneSpelling : Shape → Type 0
HaveOneSpelling s = (f g : Frame) → IsFrame s f → IsFrame s g → (xs ys : List ℕ) → spelled f ++ xs ≡ spelled g ++ ys → f ≡ g

-- at most one list of frames has the bytes as its spellings
abbrev pub FitOneList : Shape → Type 0
FitOneList s = (fs gs : List Frame) → Each (IsFrame s) fs → Each (IsFrame s) gs → all_spelled fs ≡ all_spelled gs → fs ≡ gs

-- what is read of a spelling is what was spelled, whatever follows it
abbrev pub ReadBack : Shape → Type 0
ReadBack s = (f : Frame) → IsFrame s f → (rest : List ℕ) → front_frame s (spelled f ++ rest) ≡ f

abbrev pub ReadBackAll : Shape → Type 0
ReadBackAll s = (fs : List Frame) → Each (IsFrame s) fs → frames_in s (all_spelled fs) ≡ fs

-- the checks accept each spelling
abbrev pub AcceptHeads : Shape → Type 0
AcceptHeads s = (h : Head) → IsHead s h → read_head s (head_spelled s h) ≡ Ok h

abbrev pub AcceptGroups : Shape → Type 0
AcceptGroups s = (ms : List Message) → IsGroup s ms → read_group s (spelled (GroupFrame ms)) ≡ Ok (length ms)

-- the head of a frame tells how long the frame is
abbrev pub TellSize : Shape → Type 0
TellSize s = (f : Frame) → IsFrame s f → (rest : List ℕ) → frame_size s (take HEAD_SIZE (spelled f ++ rest)) ≡ Some (length (spelled f))

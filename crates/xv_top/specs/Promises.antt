-- What each command promises of a call with its words, and what is promised of words that no command has. The fields have
-- one name in all: what is read, what each status means, when all is done, and what is left.
use Rattle.std.specs.Prelude.{◌≡◌, ◌≢◌, ◌⊎◌, ℕ, List, Option, Some, None, IfSome}
use Rattle.xv_base.specs.declared.text.LineFault.{LineFault}
use Rattle.xv_base.specs.declared.status.Status.{Status}
use Rattle.xv_base.specs.declared.status.Status.TheVariants.{Fine, BadWords, BadInput, ReadFault, WriteFault, NoMemory, Failed, Cancelled, FileFault}
use Rattle.xv_job.specs.JobText.{job_text}
use Rattle.xv_job.specs.Made.{made_job}
use Rattle.xv_top.specs.Refused.{input_fault, refused_line, refused_words}
use Rattle.xv_top.specs.Outcome.{OnInput, Outcome, ReadsQuietly, ReadsNothing, ReadsWithin, ReadsEnough, ReadFails, WritesNothing, WritesAll, WriteFails, WritesFront}
use Rattle.xv_top.specs.Top.{IsReplayed, IsReplayCut, IsReplayShort}
use Rattle.xv_top.specs.Driven.{drive_text, IsDriven}
use Rattle.xv_top.specs.Handover.{handover_fault, IsHandedOver, IsHandoverCut}
use Rattle.xv_top.specs.declared.command.Command.{Command}
use Rattle.xv_top.specs.declared.command.Command.TheVariants.{Replay, Gen, Handover, Drive}
use Rattle.xv_top.specs.declared.command.Form.{Form}
use Rattle.xv_top.specs.declared.program.Left.TheVariants.{Nothing}

-- the input is refused, and the line that says why was written
pub record IsRefusedBy (fault_of : List ℕ → Option LineFault) (o : Outcome) : Type 0 where
  pub fault : LineFault
  pub refused : IfSome o.input.before (λ xs. fault_of xs ≡ Some fault)
  pub input : ReadsEnough o.input
  pub output : WritesAll o.output (refused_line fault)

-- the input is refused, and the output failed at the line that says why
pub record IsRefusalCut (fault_of : List ℕ → Option LineFault) (o : Outcome) : Type 0 where
  pub fault : LineFault
  pub refused : IfSome o.input.before (λ xs. fault_of xs ≡ Some fault)
  pub output : WritesFront o.output (refused_line fault)

-- a read failed, and nothing was written
pub record IsReadFailed (o : Outcome) : Type 0 where
  pub input : ReadFails o.input
  pub output : WritesNothing o.output

-- there was no memory, and nothing was written
pub record IsOutOfMemory (o : Outcome) : Type 0 where
  pub input : ReadsQuietly o.input
  pub output : WritesNothing o.output

-- the input is told, and is not refused
pub record IsGoodInput (fault_of : List ℕ → Option LineFault) (i : OnInput) : Type 0 where
  pub bytes : List ℕ
  pub told : i.before ≡ Some bytes
  pub no_fault : fault_of bytes ≡ None

-- no count of faults rose
pub record HasNotFailed (o : Outcome) : Type 0 where
  pub input : ReadFails o.input → ⊥
  pub output : WriteFails o.output → ⊥

-- all was done, but for want of memory
abbrev pub IsComplete : Status → Type 0
IsComplete status = (status ≡ Fine) ⊎ (status ≡ NoMemory)

-- a status is one that a command may answer
pub record IsOfCommand (status : Status) : Type 0 where
  pub words : status ≢ BadWords
  pub failed : status ≢ Failed
  pub cancelled : status ≢ Cancelled
  pub files : status ≢ FileFault

pub record ReplayPromise (form : Form) (o : Outcome) : Type 0 where
  pub reads : ReadsWithin o.input
  pub fine : o.status ≡ Fine → IsReplayed form o
  pub bad_input : o.status ≡ BadInput → IsRefusedBy input_fault o
  pub read_fault : o.status ≡ ReadFault → IsReadFailed o
  pub write_fault : o.status ≡ WriteFault → ReadsQuietly o.input × (IsRefusalCut input_fault o ⊎ IsReplayCut form o)
  pub no_memory : o.status ≡ NoMemory → IsOutOfMemory o ⊎ IsReplayShort form o
  pub complete : IsGoodInput input_fault o.input → HasNotFailed o → IsComplete o.status
  pub left : o.status ≢ Fine → o.left ≡ Nothing
  pub no_other : IsOfCommand o.status

pub record GenPromise (number : ℕ) (o : Outcome) : Type 0 where
  pub reads : ReadsNothing o.input
  pub fine : o.status ≡ Fine → WritesAll o.output (job_text (made_job number))
  pub bad_input : o.status ≢ BadInput
  pub read_fault : o.status ≢ ReadFault
  pub write_fault : o.status ≡ WriteFault → WritesFront o.output (job_text (made_job number))
  pub no_memory : o.status ≡ NoMemory → WritesNothing o.output
  pub complete : (WriteFails o.output → ⊥) → IsComplete o.status
  pub left : o.left ≡ Nothing
  pub no_other : IsOfCommand o.status

pub record HandoverPromise (o : Outcome) : Type 0 where
  pub reads : ReadsWithin o.input
  pub fine : o.status ≡ Fine → IsHandedOver o
  pub bad_input : o.status ≡ BadInput → IsRefusedBy handover_fault o
  pub read_fault : o.status ≡ ReadFault → IsReadFailed o
  pub write_fault : o.status ≡ WriteFault → ReadsQuietly o.input × (IsRefusalCut handover_fault o ⊎ IsHandoverCut o)
  pub no_memory : o.status ≡ NoMemory → IsOutOfMemory o
  pub complete : IsGoodInput handover_fault o.input → HasNotFailed o → IsComplete o.status
  pub left : o.left ≡ Nothing
  pub no_other : IsOfCommand o.status

pub record DrivePromise (number : ℕ) (o : Outcome) : Type 0 where
  pub reads : ReadsNothing o.input
  pub fine : o.status ≡ Fine → IsDriven number o
  pub bad_input : o.status ≢ BadInput
  pub read_fault : o.status ≢ ReadFault
  pub write_fault : o.status ≡ WriteFault → WritesFront o.output (drive_text (made_job number))
  pub no_memory : o.status ≡ NoMemory → WritesNothing o.output
  pub complete : (WriteFails o.output → ⊥) → IsComplete o.status
  pub left : o.status ≢ Fine → o.left ≡ Nothing
  pub no_other : IsOfCommand o.status

-- words that no command has
pub record WordsPromise (o : Outcome) : Type 0 where
  pub reads : ReadsNothing o.input
  pub bad_words : o.status ≡ BadWords → WritesAll o.output refused_words
  pub write_fault : o.status ≡ WriteFault → WritesFront o.output refused_words
  pub left : o.left ≡ Nothing
  pub no_other : (o.status ≡ BadWords) ⊎ (o.status ≡ WriteFault)

abbrev pub PromiseOf : Command → Outcome → Type 0
PromiseOf (Replay form) o = ReplayPromise form o
PromiseOf (Gen number) o = GenPromise number o
PromiseOf Handover o = HandoverPromise o
PromiseOf (Drive number) o = DrivePromise number o

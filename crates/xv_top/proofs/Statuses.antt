-- A promise, from what is said at the status that a call answers.
use Rattle.std.proofs.Common.{◌≡◌, ◌≢◌, ℕ, List, Option, Some, None, IfSome, refl, sym, ◌∙◌, subst, inl, inr}
use Rattle.std.specs.Prelude.{◌⊎◌, Result, Ok, Err}
use Rattle.xv_base.specs.declared.text.LineFault.{LineFault}
use Rattle.xv_base.specs.declared.status.Status.{Status}
use Rattle.xv_base.specs.declared.status.Status.TheVariants.{Fine, BadWords, BadInput, ReadFault, WriteFault, NoMemory, Failed, Cancelled, FileFault}
use Rattle.xv_io.specs.Io.{TookMore}
use Rattle.xv_job.specs.Written.{Written, job_of}
use Rattle.xv_job.specs.Made.{made_job}
use Rattle.xv_script.specs.declared.line.Line.{Line}
use Rattle.xv_top.specs.Refused.{input_fault}
use Rattle.xv_top.specs.Outcome.{Outcome, ReadsQuietly, ReadsNothing, ReadsWithin, WritesNothing, WritesQuietly, WriteFails, WritesFront}
use Rattle.xv_top.specs.Replay.{transcript}
use Rattle.xv_top.specs.Top.{IsInput, IsReplayed, IsReplayCut, IsReplayShort}
use Rattle.xv_top.specs.Driven.{drive_text, IsDriven}
use Rattle.xv_top.specs.Promises.{IsRefusedBy, IsRefusalCut, IsReadFailed, IsOutOfMemory, IsGoodInput, IsComplete, IsOfCommand, ReplayPromise, DrivePromise}
use Rattle.xv_top.specs.declared.command.Form.{Form}
use Rattle.xv_top.specs.declared.command.Form.TheVariants.{Json}
use Rattle.xv_top.specs.declared.program.Left.TheVariants.{Nothing}

-- what is said at each status of a command
abbrev pub Says : Type 0 → Type 0 → Type 0 → Type 0 → Type 0 → Status → Type 0
Says F I R W M Fine = F
Says F I R W M BadWords = ⊥
Says F I R W M BadInput = I
Says F I R W M ReadFault = R
Says F I R W M WriteFault = W
Says F I R W M NoMemory = M
Says F I R W M Failed = ⊥
Says F I R W M Cancelled = ⊥
Says F I R W M FileFault = ⊥

pub record SaysEach (F I R W M : Type 0) (s : Status) : Type 0 where
  pub fine : s ≡ Fine → F
  pub bad_input : s ≡ BadInput → I
  pub read_fault : s ≡ ReadFault → R
  pub write_fault : s ≡ WriteFault → W
  pub no_memory : s ≡ NoMemory → M
  pub complete : (I → ⊥) → (R → ⊥) → (W → ⊥) → IsComplete s
  pub no_other : IsOfCommand s

of-command : (s : Status) → s ≢ BadWords → s ≢ Failed → s ≢ Cancelled → s ≢ FileFault → IsOfCommand s
of-command s words failed cancelled files = record { words = words; failed = failed; cancelled = cancelled; files = files }

pub says-each : (F I R W M : Type 0) (s : Status) → Says F I R W M s → SaysEach F I R W M s
says-each F I R W M Fine says = record {
  fine = λ _. says;
  bad_input = λ is. absurd (cc);
  read_fault = λ is. absurd (cc);
  write_fault = λ is. absurd (cc);
  no_memory = λ is. absurd (cc);
  complete = λ _ _ _. inl refl;
  no_other = of-command Fine (λ is. cc) (λ is. cc) (λ is. cc) (λ is. cc);
}
says-each F I R W M BadWords says = absurd says
says-each F I R W M BadInput says = record {
  fine = λ is. absurd (cc);
  bad_input = λ _. says;
  read_fault = λ is. absurd (cc);
  write_fault = λ is. absurd (cc);
  no_memory = λ is. absurd (cc);
  complete = λ not _ _. absurd (not says);
  no_other = of-command BadInput (λ is. cc) (λ is. cc) (λ is. cc) (λ is. cc);
}
says-each F I R W M ReadFault says = record {
  fine = λ is. absurd (cc);
  bad_input = λ is. absurd (cc);
  read_fault = λ _. says;
  write_fault = λ is. absurd (cc);
  no_memory = λ is. absurd (cc);
  complete = λ _ not _. absurd (not says);
  no_other = of-command ReadFault (λ is. cc) (λ is. cc) (λ is. cc) (λ is. cc);
}
says-each F I R W M WriteFault says = record {
  fine = λ is. absurd (cc);
  bad_input = λ is. absurd (cc);
  read_fault = λ is. absurd (cc);
  write_fault = λ _. says;
  no_memory = λ is. absurd (cc);
  complete = λ _ _ not. absurd (not says);
  no_other = of-command WriteFault (λ is. cc) (λ is. cc) (λ is. cc) (λ is. cc);
}
says-each F I R W M NoMemory says = record {
  fine = λ is. absurd (cc);
  bad_input = λ is. absurd (cc);
  read_fault = λ is. absurd (cc);
  write_fault = λ is. absurd (cc);
  no_memory = λ _. says;
  complete = λ _ _ _. inr refl;
  no_other = of-command NoMemory (λ is. cc) (λ is. cc) (λ is. cc) (λ is. cc);
}
says-each F I R W M Failed says = absurd says
says-each F I R W M Cancelled says = absurd says
says-each F I R W M FileFault says = absurd says

-- an input that has no fault is not refused
no-fault : (found : Option LineFault) (fault : LineFault) → found ≡ None → found ≡ Some fault → ⊥
no-fault None fault none some = absurd (cc)
no-fault (Some other) fault none some = absurd (cc)

pub not-refused : (fault_of : List ℕ → Option LineFault) (o : Outcome) → IsGoodInput fault_of o.input → IsRefusedBy fault_of o → ⊥
not-refused fault_of o good refused =
    no-fault (fault_of good.bytes) refused.fault good.no_fault
    (subst (λ (told : Option (List ℕ)). IfSome told (λ xs. fault_of xs ≡ Some refused.fault)) good.told refused.refused)

-- a command that reads an input
abbrev pub ReplaySays : Form → Outcome → Status → Type 0
ReplaySays form o s =
    Says (IsReplayed form o) (IsRefusedBy input_fault o) (IsReadFailed o) (ReadsQuietly o.input × (WriteFails o.output × (IsRefusalCut input_fault o ⊎ IsReplayCut form o)))
    (IsOutOfMemory o ⊎ IsReplayShort form o) s

pub replay-promise : (form : Form) (o : Outcome) → ReadsWithin o.input → (o.status ≢ Fine → o.left ≡ Nothing) → ReplaySays form o o.status → ReplayPromise form o
replay-promise form o reads left says =
    let each = says-each _ _ _ _ _ o.status says in
    record {
      reads = reads;
      fine = each.fine;
      bad_input = each.bad_input;
      read_fault = each.read_fault;
      write_fault = λ is. ((each.write_fault is).0, (each.write_fault is).1.1);
      no_memory = each.no_memory;
      complete = λ good held. each.complete (not-refused input_fault o good) (λ failed. held.input failed.input) (λ failed. held.output failed.1.0);
      left = left;
      no_other = each.no_other;
    }

-- a command that reads nothing
pub drive-promise : (number : ℕ) (o : Outcome) → ReadsNothing o.input → (o.status ≢ Fine → o.left ≡ Nothing)
    → Says (IsDriven number o) ⊥ ⊥ (WritesFront o.output (drive_text (made_job number))) (WritesNothing o.output) o.status → DrivePromise number o
drive-promise number o reads left says =
    let each = says-each _ _ _ _ _ o.status says in
    record {
      reads = reads;
      fine = each.fine;
      bad_input = each.bad_input;
      read_fault = each.read_fault;
      write_fault = each.write_fault;
      no_memory = each.no_memory;
      complete = λ held. each.complete (λ none. none) (λ none. none) (λ cut. held cut.failed);
      left = left;
      no_other = each.no_other;
    }

-- what was answered is no other error
pub ok-no_err : {T E : Type 0} (r : Result T E) (x : T) (e : E) → r ≡ Ok x → r ≡ Err e → ⊥
ok-no_err r x e ok err = let impossible : Ok x ≡ Err e = sym ok ∙ err in cc

pub err-no_err : {T E : Type 0} (r : Result T E) (a b : E) → r ≡ Err a → (a ≡ b → ⊥) → r ≡ Err b → ⊥
err-no_err r a b is other err = other (let same : Err a ≡ Err b = sym is ∙ err in cc)

-- for want of memory nothing was written, or the transcript alone
pub short-or-none : (form : Form) (o : Outcome) (written : Written) (lines : List Line) → ReadsQuietly o.input → WritesQuietly o.output → IfSome o.input.before (λ xs. IsInput xs written lines)
    → (o.output.after ≡ o.output.before) ⊎ ((form ≡ Json) × TookMore o.output.before o.output.after (transcript (job_of written) lines)) → IsOutOfMemory o ⊎ IsReplayShort form o
short-or-none form o written lines input output text (inl stays) = inl (record { input = input; output = record { stays = stays; quiet = output } })
short-or-none form o written lines input output text (inr (json, taken)) =
    inr (record { json = json; written = written; lines = lines; input = text; output = taken; quiet_input = input; quiet_output = output })

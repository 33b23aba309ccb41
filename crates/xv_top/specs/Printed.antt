-- What `replay` prints, by what its journal tells.
use Rattle.std.specs.Prelude.{◌≡◌, ◌<◌, ℕ, false, true, List, [], ◌∷◌, ◌++◌, length, replicate, codes, Option, IfSome}
use Rattle.xv_io.specs.Io.{TookMore}
use Rattle.xv_base.specs.declared.answer.Turn.{Turn}
use Rattle.xv_base.specs.declared.answer.Entry.{Entry}
use Rattle.xv_model.specs.Job.{Job, unit_count, size, trace}
use Rattle.xv_model.specs.Guest.{ended}
use Rattle.xv_base.specs.declared.event.Event.{Event}
use Rattle.xv_base.specs.declared.answer.Turn.TheVariants.{Wait}
use Rattle.xv_model.specs.Contents.{unit_content}
use Rattle.xv_model.specs.Story.{was_written}
use Rattle.xv_job.specs.Written.{job_of}
use Rattle.xv_script.specs.Lines.{turn_line, script_text}
use Rattle.xv_script.specs.Script.{IsScriptOf}
use Rattle.xv_script.specs.declared.line.Line.{Line}
use Rattle.xv_script.specs.declared.line.Line.TheVariants.{Step, Ask}
use Rattle.xv_report.specs.Texts.{image_text}
use Rattle.xv_core.specs.Seen.{Seen}
use Rattle.xv_core.specs.Keeping.{told_contents}
use Rattle.xv_core.specs.Losing.{story, read_between}
use Rattle.xv_top.specs.Replay.{input_text}

-- what an answer adds to a journal: nothing where the event waits
abbrev pub adds : Event → Turn → List Entry
adds event (Wait why) = []
adds event answer = record { event = event; turn = answer } ∷ []

-- Lines were answered one after another, and their texts are joined: each event has an answer and is the journal's next entry,
-- unless it waits; its line says the answer with what the unmigrated guest reads there.
abbrev pub PrintsJournal : Job → List Entry → List Line → List Entry → List ℕ → Type 0
PrintsJournal job before [] after text = (after ≡ before) × (text ≡ [])
PrintsJournal job before (Step e ∷ ls) after text =
    (answer : Turn) × (rest : List ℕ) × PrintsJournal job (before ++ adds e answer) ls after rest
    × (text ≡ turn_line e answer (read_between job before (before ++ adds e answer)) ++ rest)
PrintsJournal job before (Ask unit ∷ ls) after text =
    (words : List ℕ) × (rest : List ℕ) × PrintsJournal job before ls after rest × (text ≡ words ++ rest)

-- the answers of lines were taken, then a report, then the image of what the devices tell
pub record IsPrinted (lines : List Line) (old new : Option (List ℕ)) (m : Seen) : Type 0 where
  pub answers : List ℕ
  pub report : List ℕ
  pub answered : PrintsJournal (job_of m.job) [] lines m.journal answers
  pub output : TookMore old new (answers ++ report ++ image_text (told_contents m.source) (told_contents m.dest))

-- so they were, and the input has those lines, a script of the job, behind a line `end`; since no script has such a line, this is
-- where the job's text ends
pub record PrintsAll (bytes old new : Option (List ℕ)) (m : Seen) : Type 0 where
  pub lines : List Line
  pub script : IsScriptOf (job_of m.job) lines
  pub input : IfSome bytes (λ xs. (front : List ℕ) × (xs ≡ front ++ (codes "end" ++ 10 ∷ script_text lines)))
  pub printed : IsPrinted lines old new m

-- the input is the text of the migration's job and of a script
abbrev pub IsOfInput : Option (List ℕ) → Seen → Type 0
IsOfInput bytes m = IfSome bytes (λ xs. (lines : List Line) × (xs ≡ input_text m.job lines))

-- until the switchover a destination unit that was not written is all zero
pub record IsZeroElsewhere (m : Seen) : Type 0 where
  pub units : (unit : ℕ) → unit < unit_count (job_of m.job) → (story m).switched ≡ false → was_written (story m) unit ≡ false → unit_content (told_contents m.dest) unit ≡ replicate (size (job_of m.job).shape unit) 0

-- the destination has the guest, and each guest has ended all that it has
pub record HasEndedAll (m : Seen) : Type 0 where
  pub switched : (story m).switched ≡ true
  pub ended : (guest : ℕ) → ended (story m).history guest ≡ length (trace (job_of m.job) guest)

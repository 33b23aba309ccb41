-- Lines of a script that were played on a migration: what each did, and what it wrote.
use Rattle.std.specs.Prelude.{◌≡◌, ◌≤◌, ℕ, List, [], ◌∷◌, ◌++◌, length, take, drop, Option}
use Rattle.xv_io.specs.Io.{TookMore, TookFront}
use Rattle.xv_model.specs.Wait.{Event}
use Rattle.xv_model.specs.Effect.{Turn}
use Rattle.xv_model.specs.Step.{turn, entry_of, is_flagged}
use Rattle.xv_model.specs.Report.{probe}
use Rattle.xv_script.specs.Lines.{turn_line, probe_line}
use Rattle.xv_script.specs.declared.line.Line.{Line}
use Rattle.xv_script.specs.declared.line.Line.TheVariants.{Step, Ask}
use Rattle.xv_job.specs.Written.{job_of}
use Rattle.xv_core.specs.Seen.{Seen, view_of}
use Rattle.xv_core.specs.Stepped.{IsStep}
use Rattle.xv_core.specs.Keeping.{IsKept}

-- an event was played: it was one step, after which all holds that every migration keeps, and its line says its answer and
-- the bytes that it read
pub record IsEventPlayed (old : Seen) (event : Event) (new : Seen) (text : List ℕ) : Type 0 where
  pub answer : Turn
  pub stepped : IsStep old event answer new
  pub kept : IsKept new
  pub line : text ≡ turn_line event answer (drop (length old.reads) new.reads)

-- a line was played; a unit that is asked for changes nothing
abbrev pub IsLinePlayed : Seen → Line → Seen → List ℕ → Type 0
IsLinePlayed old (Step event) new text = IsEventPlayed old event new text
IsLinePlayed old (Ask unit) new text = (new ≡ old) × (text ≡ probe_line (probe (job_of old.job) (view_of old) unit.0))

-- a line was played and its text was taken, whole or a front of it
abbrev pub IsLineWritten : Seen → Line → Seen → Option (List ℕ) → Option (List ℕ) → Type 0
IsLineWritten old line new before after = (text : List ℕ) × IsLinePlayed old line new text × TookMore before after text

abbrev pub IsLineCut : Seen → Line → Seen → Option (List ℕ) → Option (List ℕ) → Type 0
IsLineCut old line new before after = (text : List ℕ) × IsLinePlayed old line new text × TookFront before after text

-- lines were played one after another, each where the one before it left the migration
abbrev pub ArePlayed : Seen → List Line → Seen → List ℕ → Type 0
ArePlayed old [] new text = (new ≡ old) × (text ≡ [])
ArePlayed old (l ∷ ls) new text =
    (mid : Seen) × (first : List ℕ) × (rest : List ℕ) × IsLinePlayed old l mid first × ArePlayed mid ls new rest × (text ≡ first ++ rest)

-- The output failed at a line: those before it were played and their text was taken whole, it was played too, and a front
-- of its text was taken. None behind it was played.
pub record IsCutShort (old : Seen) (lines : List Line) (new : Seen) (before after : Option (List ℕ)) : Type 0 where
  pub done : List Line
  pub last : Line
  pub behind : List Line
  pub parts : lines ≡ done ++ last ∷ behind
  pub mid : Seen
  pub text : List ℕ
  pub text_of_last : List ℕ
  pub played : ArePlayed old done mid text
  pub last_played : IsLinePlayed mid last new text_of_last
  pub front : ℕ
  pub within : front ≤ length text_of_last
  pub taken : TookMore before after (text ++ take front text_of_last)

-- An event was answered: the answer is the machine's, the job stays, the journal has the event's entry, all is kept that every
-- migration keeps, and the line says the answer with the bytes that were read.
pub record IsAnswered (old : Seen) (event : Event) (new : Seen) (text : List ℕ) : Type 0 where
  pub answer : Turn
  pub answers : answer ≡ turn (job_of old.job) (view_of old) event (is_flagged answer)
  pub of_job : new.job ≡ old.job
  pub journal : new.journal ≡ old.journal ++ entry_of event answer
  pub kept : IsKept new
  pub line : text ≡ turn_line event answer (drop (length old.reads) new.reads)

abbrev pub IsLineAnswered : Seen → Line → Seen → List ℕ → Type 0
IsLineAnswered old (Step event) new text = IsAnswered old event new text
IsLineAnswered old (Ask unit) new text = (new ≡ old) × (text ≡ probe_line (probe (job_of old.job) (view_of old) unit.0))

-- lines were answered one after another, each where the one before it left the migration
abbrev pub AreAnswered : Seen → List Line → Seen → List ℕ → Type 0
AreAnswered old [] new text = (new ≡ old) × (text ≡ [])
AreAnswered old (l ∷ ls) new text =
    (mid : Seen) × (first : List ℕ) × (rest : List ℕ) × IsLineAnswered old l mid first × AreAnswered mid ls new rest × (text ≡ first ++ rest)

-- A script as far as its lines have been read; what is wrong with a line, and the script after it.
use Rattle.std.specs.Prelude.{◌≡◌, ℕ, nat_le, nat_lt, Bool, true, false, List, [], ◌∷◌, ◌++◌, length, Option, Some, None}
use Rattle.std.specs.List.{list_all}
use Rattle.xv_base.specs.declared.text.LineFault.{LineFault}
use Rattle.xv_base.specs.declared.text.LineWhy.{LineWhy}
use Rattle.xv_base.specs.declared.text.LineWhy.TheVariants.{BadWord, OutOfRange}
use Rattle.xv_text.specs.Lines.{lines_of, has_rest}
use Rattle.xv_text.specs.Fields.{values, number_at, fields_fault, or_else, fault_if}
use Rattle.xv_text.specs.Reading.{Reader, first_fault, last_state}
use Rattle.xv_trace.specs.OpText.{head, tail}
use Rattle.xv_model.specs.Job.{Job, guest_count, unit_count}
use Rattle.xv_model.specs.Wait.{fits}
use Rattle.xv_script.specs.Words.{word_of, named, kinds, line_said}
use Rattle.xv_script.specs.declared.counts.Counts.{Counts}
use Rattle.xv_script.specs.declared.line.Line.{Line}
use Rattle.xv_script.specs.declared.line.Line.TheVariants.{Step, Ask}
use Rattle.xv_script.specs.declared.word.Named.{Named}
use Rattle.xv_script.specs.declared.word.Named.TheVariants.{Nothing, OfGuests, OfDisks, OfStreams, OfUnits}
use Rattle.xv_script.specs.declared.word.Word.{Word}

-- the lines so far, and whether `stop` has come
pub record Script : Type 0 where
  pub lines : List Line
  pub stopped : Bool

abbrev pub first_script : Script
first_script = record { lines = []; stopped = false }

-- how many guests, disks, streams and units a job has
abbrev pub counts_of : Job → Counts
counts_of job = record { guests = guest_count job; disks = length job.copy.disks; streams = job.config.streams; units = unit_count job }

-- how many there are of what a word names
abbrev pub count_of : Counts → Named → ℕ
count_of counts Nothing = 1
count_of counts OfGuests = counts.guests
count_of counts OfDisks = counts.disks
count_of counts OfStreams = counts.streams
count_of counts OfUnits = counts.units

-- the number behind a word, and 0 behind one that names nothing
abbrev pub number_said : Word → List (List ℕ) → ℕ
number_said word args = number_at (values (kinds (named word)) args) 0

abbrev pub range_fault : Counts → Word → List (List ℕ) → Option LineWhy
range_fault counts word args = fault_if (nat_le (count_of counts (named word)) (number_said word args)) OutOfRange

-- what is wrong with a line, the first reason: its word, what follows it, and a number that names nothing
abbrev pub word_fault : Counts → Option Word → List (List ℕ) → Option LineWhy
word_fault counts None args = Some BadWord
word_fault counts (Some word) args = or_else (fields_fault (kinds (named word)) args) (range_fault counts word args)

abbrev pub line_fault : Counts → List (List ℕ) → Option LineWhy
line_fault counts line = word_fault counts (word_of (head line)) (tail line)

-- the line that fields without a fault say; none where the script stops
abbrev pub line_by : Option Word → List (List ℕ) → Option Line
line_by None args = None
line_by (Some word) args = line_said word (number_said word args)

abbrev pub line_in : List (List ℕ) → Option Line
line_in line = line_by (word_of (head line)) (tail line)

-- the script with one line more, or stopped
abbrev pub with_line : Script → Option Line → Script
with_line s None = record s { stopped = true }
with_line s (Some line) = record s { lines = s.lines ++ line ∷ [] }

-- what reads a script, where there are so many of what its lines name
abbrev pub is_stopped : Script → Bool
is_stopped s = s.stopped

abbrev pub fault_in : Counts → Script → List (List ℕ) → Option LineWhy
fault_in counts s line = line_fault counts line

abbrev pub next_script : Script → List (List ℕ) → Script
next_script s line = with_line s (line_in line)

abbrev pub reader : Counts → Reader Script
reader counts = record { is_ended = is_stopped; fault = fault_in counts; next = next_script }

-- what reads a script of a job
abbrev pub script_reader : Job → Reader Script
script_reader job = reader (counts_of job)

-- what is wrong with a text whose first line has this number, and the lines that one without a fault says
abbrev pub text_fault : Counts → ℕ → List ℕ → Option LineFault
text_fault counts first text = first_fault (reader counts) true first_script first (lines_of text) (has_rest text)

abbrev pub text_lines : Counts → List ℕ → List Line
text_lines counts text = (last_state (reader counts) first_script (lines_of text)).lines

-- whether what a line names is in the job
abbrev pub is_in : Job → Line → Bool
is_in job (Step event) = fits job event
is_in job (Ask unit) = nat_lt unit.0 (unit_count job)

-- the lines that a script of a job may have
pub record IsScriptOf (job : Job) (lines : List Line) : Type 0 where
  pub in_job : list_all (is_in job) lines ≡ true

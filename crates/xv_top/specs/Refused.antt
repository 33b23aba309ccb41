-- How an input is refused: by its length, or by its first faulty line; for `replay` of the job or behind it of the script.
use Rattle.std.specs.Prelude.{ℕ, ◌+◌, nat_lt, Bool, true, false, List, [], ◌∷◌, ◌++◌, length, drop, codes, decimal, Option, Some, None, if◌then◌else◌}
use Rattle.xv_base.specs.declared.limits.TheConstants.{MOST_INPUT}
use Rattle.xv_text.specs.declared.limits.TheConstants.{LIMIT_OF_INPUT}
use Rattle.xv_base.specs.declared.text.LineWhy.{LineWhy}
use Rattle.xv_base.specs.declared.text.LineWhy.TheVariants.{Unended, BadWord, Order, BadNumber, BadHex, Limit, OutOfRange, CrossesPage, TooMany}
use Rattle.xv_base.specs.declared.text.LineFault.{LineFault}
use Rattle.xv_text.specs.Lines.{lines_of, has_rest}
use Rattle.xv_text.specs.Reading.{Reader, first_fault, last_state, line_count}
use Rattle.xv_job.specs.Written.{job_of}
use Rattle.xv_job.specs.Draft.{Draft, first_draft, job_reader}
use Rattle.xv_script.specs.Script.{Script, first_script, script_reader}

-- how many bytes an input has at most
abbrev pub input_limit : ℕ
input_limit = MOST_INPUT

abbrev pub fault_or : Option LineFault → Option LineFault → Option LineFault
fault_or (Some fault) later = Some fault
fault_or None later = later

-- what is wrong with lines that are two texts one behind the other, each read by its table from its first state; the second
-- one's table is that of the state in which the first one ends
abbrev pub lines_fault : {S T : Type 0} → Reader S → S → (S → Reader T) → T → List (List (List ℕ)) → Bool → Option LineFault
lines_fault first s behind t lines rest =
    fault_or (first_fault first false s 1 lines rest)
    (first_fault (behind (last_state first s lines)) true t (line_count first s lines + 1) (drop (line_count first s lines) lines) rest)

-- an input is refused by its length first
abbrev pub too_long_or : List ℕ → Option LineFault → Option LineFault
too_long_or bytes fault = if nat_lt input_limit (length bytes) then Some (record { line = 0; why = Limit LIMIT_OF_INPUT }) else fault

-- a job, and behind it a script of that job
abbrev pub script_behind : Draft → Reader Script
script_behind draft = script_reader (job_of draft.job)

abbrev pub input_fault : List ℕ → Option LineFault
input_fault bytes = too_long_or bytes (lines_fault job_reader first_draft script_behind first_script (lines_of bytes) (has_rest bytes))

-- the line of a refusal
abbrev pub why_words : LineWhy → List ℕ
why_words Unended = codes "unended"
why_words BadWord = codes "bad-word"
why_words Order = codes "order"
why_words BadNumber = codes "bad-number"
why_words BadHex = codes "bad-hex"
why_words (Limit n) = codes "limit " ++ decimal n
why_words OutOfRange = codes "out-of-range"
why_words CrossesPage = codes "crosses-page"
why_words TooMany = codes "too-many"

abbrev pub refused_line : LineFault → List ℕ
refused_line fault = codes "refused line " ++ decimal fault.line ++ 32 ∷ why_words fault.why ++ 10 ∷ []

abbrev pub refused_words : List ℕ
refused_words = codes "refused words" ++ 10 ∷ []

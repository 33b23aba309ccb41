-- The report and the image as text.
use Rattle.std.specs.Prelude.{ℕ, ◌==◌, Bool, List, [], ◌∷◌, ◌++◌, length, codes, decimal, Option, Some, None, get_or, if◌then◌else◌}
use Rattle.std.specs.List.{flat_map, list_all, range_with_len}
use Rattle.xv_base.specs.declared.event.Phase.{Phase}
use Rattle.xv_base.specs.declared.event.Phase.TheVariants.{Running, Stunned, Switched, Cancelled, Failed}
use Rattle.xv_base.specs.declared.event.Totals.{Totals}
use Rattle.xv_base.specs.Hex.{hex}
use Rattle.xv_report.specs.declared.counts.Count.{Count}
use Rattle.xv_report.specs.Workers.{Tally, worker_name}

abbrev pub phase_word : Phase → List ℕ
phase_word Running = codes "running"
phase_word Stunned = codes "stunned"
phase_word Switched = codes "switched"
phase_word Cancelled = codes "cancelled"
phase_word Failed = codes "failed"

-- who runs the guest
abbrev pub owner_word : Phase → List ℕ
owner_word Running = codes "source"
owner_word Stunned = codes "source"
owner_word Switched = codes "destination"
owner_word Cancelled = codes "source"
owner_word Failed = codes "source"

abbrev pub stun_word : Option ℕ → List ℕ
stun_word None = codes "none"
stun_word (Some n) = decimal n

-- a line of the report: a name, a space and a value
abbrev pub row : List ℕ → List ℕ → List ℕ
row name value = name ++ 32 ∷ value ++ 10 ∷ []

-- where the migration stands
abbrev pub state_rows : Totals → List ℕ
state_rows t =
    row (codes "phase") (phase_word t.phase)
    ++ row (codes "owner") (owner_word t.phase)
    ++ row (codes "history") (decimal t.history)
    ++ row (codes "faulted") (decimal t.faulted)
    ++ row (codes "journal") (decimal t.journal)
    ++ row (codes "stun") (stun_word t.stun)

-- how much was done
abbrev pub work_rows : Totals → List ℕ
work_rows t =
    row (codes "copied") (decimal t.copied)
    ++ row (codes "rounds") (decimal t.rounds)
    ++ row (codes "messages") (decimal t.messages)
    ++ row (codes "mirrors") (decimal t.mirrors)
    ++ row (codes "applied") (decimal t.applied)
    ++ row (codes "credit") (decimal t.credit)

-- how many entries of the journal a worker made
abbrev pub worker_row : Count → List ℕ
worker_row c = row (codes "worker " ++ worker_name c.worker) (decimal c.steps)

-- a line for each worker, and a last one
abbrev pub tally_rows : Tally → List ℕ
tally_rows t = flat_map worker_row t.workers ++ row (codes "finish") (decimal t.finish)

-- these lines, where there are counts
abbrev pub counts_rows : Option Tally → List ℕ
counts_rows None = []
counts_rows (Some t) = tally_rows t

abbrev pub report_text : Totals → Option Tally → List ℕ
report_text t counts = state_rows t ++ work_rows t ++ counts_rows counts

-- whether all bytes are zero
abbrev pub is_zero : List ℕ → Bool
is_zero bytes = list_all (λ b. b == 0) bytes

-- a line with all bytes of a unit
abbrev pub full_line : List ℕ → ℕ → List ℕ → List ℕ
full_line side unit bytes = side ++ 32 ∷ decimal unit ++ 32 ∷ hex bytes ++ 10 ∷ []

-- a unit's line; none where its bytes are all zero
abbrev pub unit_line : List ℕ → ℕ → List ℕ → List ℕ
unit_line side unit bytes = if is_zero bytes then [] else full_line side unit bytes

-- the lines of one side, in rising order of the units
abbrev pub side_text : List ℕ → List (List ℕ) → List ℕ
side_text side contents = flat_map (λ unit. unit_line side unit (get_or contents unit [])) (range_with_len 0 (length contents))

-- the image: the units of the source, then those of the destination
abbrev pub image_text : List (List ℕ) → List (List ℕ) → List ℕ
image_text sources dests = side_text (codes "src") sources ++ side_text (codes "dst") dests

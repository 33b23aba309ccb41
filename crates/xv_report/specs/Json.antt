-- The report as JSON.
use Rattle.std.specs.Prelude.{◌≡◌, ℕ, List, [], ◌∷◌, ◌++◌, codes, decimal, Option, Some, None, option_and_then}
use Rattle.std.specs.List.{AllByRecursion}
use Rattle.serde_json.specs.Data.{Data, null, string, number, unsigned, object, Members, no_members, member, put}
use Rattle.serde_json.specs.Find.{get}
use Rattle.serde_json.specs.Written.{compact_text}
use Rattle.xv_base.specs.declared.event.Totals.{Totals}
use Rattle.xv_report.specs.declared.counts.Count.{Count}
use Rattle.xv_report.specs.Texts.{phase_word, owner_word}
use Rattle.xv_report.specs.Workers.{Tally, worker_name}

-- a number, and the length at the stun where there was one
abbrev pub number_value : ℕ → Data
number_value n = number (unsigned n)

abbrev pub stun_value : Option ℕ → Data
stun_value None = null
stun_value (Some n) = number_value n

-- each worker's number under its name; `put` keeps the names in byte order
abbrev pub put_workers : List Count → Members → Members
put_workers [] ms = ms
put_workers (c ∷ cs) ms = put_workers cs (put (worker_name c.worker) (number_value c.steps) ms)

abbrev pub workers_value : List Count → Data
workers_value counts = object (put_workers counts no_members)

-- the two keys that there are where there are counts
abbrev pub finish_member : Option Tally → List (List ℕ × Data)
finish_member None = []
finish_member (Some t) = (codes "finish", number_value t.finish) ∷ []

abbrev pub workers_member : Option Tally → List (List ℕ × Data)
workers_member None = []
workers_member (Some t) = (codes "workers", workers_value t.workers) ∷ []

-- the keys in byte order, each with its value
abbrev pub report_members : Totals → Option Tally → List (List ℕ × Data)
report_members t counts =
    (codes "applied", number_value t.applied)
    ∷ (codes "copied", number_value t.copied)
    ∷ (codes "credit", number_value t.credit)
    ∷ (codes "faulted", number_value t.faulted)
    ∷ finish_member counts
    ++ (codes "history", number_value t.history)
    ∷ (codes "journal", number_value t.journal)
    ∷ (codes "messages", number_value t.messages)
    ∷ (codes "mirrors", number_value t.mirrors)
    ∷ (codes "owner", string (owner_word t.phase))
    ∷ (codes "phase", string (phase_word t.phase))
    ∷ (codes "rounds", number_value t.rounds)
    ∷ (codes "stun", stun_value t.stun)
    ∷ workers_member counts

-- keys and values as the members of an object
abbrev pub members : List (List ℕ × Data) → Members
members [] = no_members
members (m ∷ ms) = member m.0 m.1 (members ms)

-- each worker's number stands under its name
abbrev pub TellsEach : List Count → Data → Type 0
TellsEach counts report = AllByRecursion (λ c. option_and_then (get (worker_name c.worker)) (get (codes "workers") report) ≡ Some (number_value c.steps)) counts

-- one object
abbrev pub report_value : Totals → Option Tally → Data
report_value t counts = object (members (report_members t counts))

-- its text with no space, and a line feed
abbrev pub report_json : Totals → Option Tally → List ℕ
report_json t counts = compact_text (report_value t counts) ++ 10 ∷ []

-- ---- the same line spelled out

abbrev pub stun_json : Option ℕ → List ℕ
stun_json None = codes "null"
stun_json (Some n) = decimal n

abbrev pub finish_json : Option Tally → List ℕ
finish_json None = []
finish_json (Some t) = codes ",\"finish\":" ++ decimal t.finish

abbrev pub workers_json : Option Tally → List ℕ
workers_json None = []
workers_json (Some t) = codes ",\"workers\":" ++ compact_text (workers_value t.workers)

abbrev pub spelled_json : Totals → Option Tally → List ℕ
spelled_json t counts =
    codes "{\"applied\":" ++ decimal t.applied
    ++ codes ",\"copied\":" ++ decimal t.copied
    ++ codes ",\"credit\":" ++ decimal t.credit
    ++ codes ",\"faulted\":" ++ decimal t.faulted
    ++ finish_json counts
    ++ codes ",\"history\":" ++ decimal t.history
    ++ codes ",\"journal\":" ++ decimal t.journal
    ++ codes ",\"messages\":" ++ decimal t.messages
    ++ codes ",\"mirrors\":" ++ decimal t.mirrors
    ++ codes ",\"owner\":\"" ++ owner_word t.phase
    ++ codes "\",\"phase\":\"" ++ phase_word t.phase
    ++ codes "\",\"rounds\":" ++ decimal t.rounds
    ++ codes ",\"stun\":" ++ stun_json t.stun
    ++ workers_json counts
    ++ codes "}\n"

-- ---- for private clauses: the keys are put in the order of the report's lines

abbrev pub with_state : Totals → Members → Members
with_state t before =
    let worded = put (codes "owner") (string (owner_word t.phase)) (put (codes "phase") (string (phase_word t.phase)) before) in
    let counted = put (codes "faulted") (number_value t.faulted) (put (codes "history") (number_value t.history) worded) in
    put (codes "stun") (stun_value t.stun) (put (codes "journal") (number_value t.journal) counted)

abbrev pub with_work : Totals → Members → Members
with_work t before =
    let copied = put (codes "rounds") (number_value t.rounds) (put (codes "copied") (number_value t.copied) before) in
    let sent = put (codes "mirrors") (number_value t.mirrors) (put (codes "messages") (number_value t.messages) copied) in
    put (codes "credit") (number_value t.credit) (put (codes "applied") (number_value t.applied) sent)

abbrev pub with_tally : Tally → Members → Members
with_tally t before = put (codes "workers") (workers_value t.workers) (put (codes "finish") (number_value t.finish) before)

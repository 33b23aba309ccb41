-- Entries more change nothing at or below the old length, and the new entry's write is laid over the unit's content.
use Rattle.std.specs.Prelude.{◌≡◌, ◌≤◌, ◌<◌, ℕ, zero, suc, ◌&&◌, List, [], ◌∷◌, ◌++◌, length, is_none, if◌then◌else◌}
use Rattle.std.proofs.Common.{arith, refl}
use Rattle.std.proofs.lemmas.List.{get_or_append_left, take-append-le, get_or_push, take_at}
use Rattle.xv_model.specs.Job.{Job, UnitOp, operation}
use Rattle.xv_model.specs.Guest.{Ended, ended, no_entry, is_done, operation_at, writes_to, wrote, written, content, part, read_bytes, reads}

pub operation_at-append : (job : Job) (h t : List Ended) (i : ℕ) → i < length h → operation_at job (h ++ t) i ≡ operation_at job h i
operation_at-append job h t i lt = rw (get_or_append_left h t no_entry i lt, take-append-le i h t (omega arith))

pub wrote-append : (job : Job) (h t : List Ended) (unit i : ℕ) → i < length h → wrote job (h ++ t) unit i ≡ wrote job h unit i
wrote-append job h t unit i lt = rw (get_or_append_left h t no_entry i lt, take-append-le i h t (omega arith))

pub content-append : (job : Job) (h t : List Ended) (unit n : ℕ) → n ≤ length h → content job (h ++ t) unit n ≡ content job h unit n
content-append job h t unit zero le = refl
content-append job h t unit (suc n) le =
    rw (content-append job h t unit n (omega arith), wrote-append job h t unit n le, operation_at-append job h t n le)

pub read_bytes-append : (job : Job) (h t : List Ended) (i : ℕ) → i < length h → read_bytes job (h ++ t) i ≡ read_bytes job h i
read_bytes-append job h t i lt =
    rw (content-append job h t (operation_at job (h ++ t) i).unit.0 i (omega arith), get_or_append_left h t no_entry i lt, take-append-le i h t (omega arith))

pub reads-append : (job : Job) (h t : List Ended) (n : ℕ) → n ≤ length h → reads job (h ++ t) n ≡ reads job h n
reads-append job h t zero le = refl
reads-append job h t (suc n) le = rw (reads-append job h t n (omega arith), read_bytes-append job h t n le)

-- the operation of a new entry
abbrev pub operation_of : Job → List Ended → Ended → UnitOp
operation_of job h e = operation job e.guest.0 (ended h e.guest.0)

pub content-new : (job : Job) (h : List Ended) (e : Ended) (unit : ℕ) → content job (h ++ e ∷ []) unit (suc (length h)) ≡ written (is_done e.outcome && writes_to (operation_of job h e) unit) (operation_of job h e) (content job h unit (length h))
content-new job h e unit = rw (content-append job h (e ∷ []) unit (length h) (omega arith), get_or_push h e no_entry (length h) refl, take_at h (e ∷ []) (length h) refl)

pub reads-new : (job : Job) (h : List Ended) (e : Ended) → reads job (h ++ e ∷ []) (suc (length h)) ≡ reads job h (length h) ++ (if is_done e.outcome && is_none (operation_of job h e).write then part (operation_of job h e) (content job h (operation_of job h e).unit.0 (length h)) else [])
reads-new job h e = rw (reads-append job h (e ∷ []) (length h) (omega arith), content-append job h (e ∷ []) (operation_at job (h ++ e ∷ []) (length h)).unit.0 (length h) (omega arith), get_or_push h e no_entry (length h) refl, take_at h (e ∷ []) (length h) refl)

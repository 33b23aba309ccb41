-- One more entry in a history: what it adds, and that all before it stays.
use Rattle.std.proofs.Common.{◌≡◌, ℕ, zero, suc, ◌+◌, ◌-◌, ◌<◌, ◌≤◌, ◌==◌, ◌&&◌, Bool, List, [], ◌∷◌, ◌++◌, length, take, is_none, if◌then◌else◌, refl, ap, ◌∙◌, arith, add-one}
use Rattle.std.proofs.lemmas.List.{get_or_append_left, get_or_at, take-append-le, take_at}
use Rattle.std.proofs.lemmas.List.Sums.{sum_by_push, sum_by-take-le}
use Rattle.std.proofs.lemmas.Bool.{eq-eqb, ne_eqb}
use Rattle.xv_model.specs.Job.{Job, UnitOp, operation}
use Rattle.xv_model.specs.Guest.{Ended, ended, entry, no_entry, operation_at, wrote, writes, writes_to, is_done, content, written, part, read_bytes, reads}

-- a history with one entry more
abbrev pub push : List Ended → Ended → List Ended
push h e = h ++ e ∷ []

-- how many of each guest's operations have ended
pub ended-push : (h : List Ended) (e : Ended) (g : ℕ) → ended (push h e) g ≡ ended h g + (if e.guest.0 == g then 1 else 0)
ended-push h e g = sum_by_push (λ x. if x.guest.0 == g then 1 else 0) h e

pub ended-push_same : (h : List Ended) (e : Ended) → ended (push h e) e.guest.0 ≡ ended h e.guest.0 + 1
ended-push_same h e = ended-push h e e.guest.0 ∙ ap (λ b. ended h e.guest.0 + (if b then 1 else 0)) (eq-eqb e.guest.0 e.guest.0 refl)

pub ended-push_other : (h : List Ended) (e : Ended) (g : ℕ) → (e.guest.0 ≡ g → ⊥) → ended (push h e) g ≡ ended h g
ended-push_other h e g n = ended-push h e g ∙ ap (λ b. ended h g + (if b then 1 else 0)) (ne_eqb e.guest.0 g n) ∙ omega arith

pub ended-take-le : (h : List Ended) (i g : ℕ) → ended (take i h) g ≤ ended h g
ended-take-le h i g = sum_by-take-le (λ x. if x.guest.0 == g then 1 else 0) h i

-- the entries
pub entry-push_before : (h : List Ended) (e : Ended) (i : ℕ) → i < length h → entry (push h e) i ≡ entry h i
entry-push_before h e i l = get_or_append_left h (e ∷ []) no_entry i l

pub entry-push_at : (h : List Ended) (e : Ended) → entry (push h e) (length h) ≡ e
entry-push_at h e = get_or_at h e [] no_entry (length h) refl

-- the operation that each stands for
pub operation_at-push_before : (job : Job) (h : List Ended) (e : Ended) (i : ℕ) → i < length h → operation_at job (push h e) i ≡ operation_at job h i
operation_at-push_before job h e i l =
    let front : take i (push h e) ≡ take i h = take-append-le i h (e ∷ []) (omega arith) in
    ap (λ x. operation job x.guest.0 (ended (take i (push h e)) x.guest.0)) (entry-push_before h e i l)
    ∙ ap (λ xs. operation job (entry h i).guest.0 (ended xs (entry h i).guest.0)) front

pub operation_at-push_at : (job : Job) (h : List Ended) (e : Ended) → operation_at job (push h e) (length h) ≡ operation job e.guest.0 (ended h e.guest.0)
operation_at-push_at job h e =
    ap (λ x. operation job x.guest.0 (ended (take (length h) (push h e)) x.guest.0)) (entry-push_at h e)
    ∙ ap (λ xs. operation job e.guest.0 (ended xs e.guest.0)) (take_at h (e ∷ []) (length h) refl)

-- the writes that were done
pub wrote-push_before : (job : Job) (h : List Ended) (e : Ended) (unit i : ℕ) → i < length h → wrote job (push h e) unit i ≡ wrote job h unit i
wrote-push_before job h e unit i l =
    ap (λ x. is_done x.outcome && writes_to (operation_at job (push h e) i) unit) (entry-push_before h e i l)
    ∙ ap (λ op. is_done (entry h i).outcome && writes_to op unit) (operation_at-push_before job h e i l)

pub wrote-push_at : (job : Job) (h : List Ended) (e : Ended) (unit : ℕ) → wrote job (push h e) unit (length h) ≡ (is_done e.outcome && writes_to (operation job e.guest.0 (ended h e.guest.0)) unit)
wrote-push_at job h e unit =
    ap (λ x. is_done x.outcome && writes_to (operation_at job (push h e) (length h)) unit) (entry-push_at h e)
    ∙ ap (λ op. is_done e.outcome && writes_to op unit) (operation_at-push_at job h e)

pub writes-push_before : (job : Job) (h : List Ended) (e : Ended) (unit n : ℕ) → n ≤ length h → writes job (push h e) unit n ≡ writes job h unit n
writes-push_before job h e unit zero l = refl
writes-push_before job h e unit (suc n) l =
    ap (λ b. (if b then 1 else 0) + writes job (push h e) unit n) (wrote-push_before job h e unit n l)
    ∙ ap (λ k. (if wrote job h unit n then 1 else 0) + k) (writes-push_before job h e unit n (omega arith))

pub writes-suc : (job : Job) (h : List Ended) (unit n : ℕ) → writes job h unit (n + 1) ≡ (if wrote job h unit n then 1 else 0) + writes job h unit n
writes-suc job h unit n = ap (writes job h unit) (add-one n)

pub writes-push_at : (job : Job) (h : List Ended) (e : Ended) (unit : ℕ) →
    writes job (push h e) unit (length h + 1) ≡ (if is_done e.outcome && writes_to (operation job e.guest.0 (ended h e.guest.0)) unit then 1 else 0) + writes job h unit (length h)
writes-push_at job h e unit =
    writes-suc job (push h e) unit (length h)
    ∙ ap (λ b. (if b then 1 else 0) + writes job (push h e) unit (length h)) (wrote-push_at job h e unit)
    ∙ ap (λ k. (if is_done e.outcome && writes_to (operation job e.guest.0 (ended h e.guest.0)) unit then 1 else 0) + k) (writes-push_before job h e unit (length h) (omega arith))

-- the contents
pub content-push_before : (job : Job) (h : List Ended) (e : Ended) (unit n : ℕ) → n ≤ length h → content job (push h e) unit n ≡ content job h unit n
content-push_before job h e unit zero l = refl
content-push_before job h e unit (suc n) l =
    ap (λ b. written b (operation_at job (push h e) n) (content job (push h e) unit n)) (wrote-push_before job h e unit n l)
    ∙ ap (λ op. written (wrote job h unit n) op (content job (push h e) unit n)) (operation_at-push_before job h e n l)
    ∙ ap (written (wrote job h unit n) (operation_at job h n)) (content-push_before job h e unit n (omega arith))

-- what an entry reads, from its outcome, its operation and the contents before it
abbrev pub bytes_read : Bool → UnitOp → (ℕ → List ℕ) → List ℕ
bytes_read done op contents = if done && is_none op.write then part op (contents op.unit.0) else []

pub read_bytes-push_before : (job : Job) (h : List Ended) (e : Ended) (i : ℕ) → i < length h → read_bytes job (push h e) i ≡ read_bytes job h i
read_bytes-push_before job h e i l =
    ap (λ x. bytes_read (is_done x.outcome) (operation_at job (push h e) i) (λ u. content job (push h e) u i)) (entry-push_before h e i l)
    ∙ ap (λ op. bytes_read (is_done (entry h i).outcome) op (λ u. content job (push h e) u i)) (operation_at-push_before job h e i l)
    ∙ ap (λ bytes. if is_done (entry h i).outcome && is_none (operation_at job h i).write then part (operation_at job h i) bytes else []) (content-push_before job h e (operation_at job h i).unit.0 i (omega arith))

pub read_bytes-push_at : (job : Job) (h : List Ended) (e : Ended) →
    read_bytes job (push h e) (length h) ≡ bytes_read (is_done e.outcome) (operation job e.guest.0 (ended h e.guest.0)) (λ u. content job h u (length h))
read_bytes-push_at job h e =
    ap (λ x. bytes_read (is_done x.outcome) (operation_at job (push h e) (length h)) (λ u. content job (push h e) u (length h))) (entry-push_at h e)
    ∙ ap (λ op. bytes_read (is_done e.outcome) op (λ u. content job (push h e) u (length h))) (operation_at-push_at job h e)
    ∙ ap (λ bytes. if is_done e.outcome && is_none (operation job e.guest.0 (ended h e.guest.0)).write then part (operation job e.guest.0 (ended h e.guest.0)) bytes else [])
    (content-push_before job h e (operation job e.guest.0 (ended h e.guest.0)).unit.0 (length h) (omega arith))

pub reads-push_before : (job : Job) (h : List Ended) (e : Ended) (n : ℕ) → n ≤ length h → reads job (push h e) n ≡ reads job h n
reads-push_before job h e zero l = refl
reads-push_before job h e (suc n) l =
    ap (λ bs. bs ++ read_bytes job (push h e) n) (reads-push_before job h e n (omega arith))
    ∙ ap (λ bs. reads job h n ++ bs) (read_bytes-push_before job h e n l)

pub reads-push_at : (job : Job) (h : List Ended) (e : Ended) →
    reads job (push h e) (length h + 1) ≡ reads job h (length h) ++ bytes_read (is_done e.outcome) (operation job e.guest.0 (ended h e.guest.0)) (λ u. content job h u (length h))
reads-push_at job h e =
    ap (reads job (push h e)) (add-one (length h))
    ∙ ap (λ bs. bs ++ read_bytes job (push h e) (length h)) (reads-push_before job h e (length h) (omega arith))
    ∙ ap (λ bs. reads job h (length h) ++ bs) (read_bytes-push_at job h e)

-- the writes done do not fall, and one more is one more
suc_le : (b : Bool) (k m : ℕ) → m ≤ k → m ≤ (if b then 1 else 0) + k
suc_le b k m h = omega arith

writes-mono_by : (job : Job) (h : List Ended) (unit m : ℕ) (n d : ℕ) → n ≡ m + d → writes job h unit m ≤ writes job h unit n
writes-mono_by job h unit m n zero e = omega (arith, ap (writes job h unit) (let e' : m ≡ n = omega arith in e'))
writes-mono_by job h unit m zero (suc d) e = absurd (omega arith)
writes-mono_by job h unit m (suc n) (suc d) e = suc_le (wrote job h unit n) (writes job h unit n) (writes job h unit m) (writes-mono_by job h unit m n d (omega arith))

pub writes-mono : (job : Job) (h : List Ended) (unit m n : ℕ) → m ≤ n → writes job h unit m ≤ writes job h unit n
writes-mono job h unit m n l = writes-mono_by job h unit m n (n - m) (omega arith)

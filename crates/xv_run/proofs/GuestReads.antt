-- A journal's lines have the bytes of its reads, one behind the other.
use Rattle.std.specs.Prelude.{◌≡◌, ◌≤◌, ◌<◌, ℕ, ◌+◌, ◌&&◌, ◌==◌, Bool, true, false, List, [], ◌∷◌, ◌++◌, length, take, is_some, is_none, Option, Some, None, if◌then◌else◌}
use Rattle.std.specs.List.{list_all}
use Rattle.std.proofs.Common.{refl, ap, sym, subst, ◌∙◌, arith, append_assoc, append-nil, add-one, le-leb, take_at, drop_at}
use Rattle.std.proofs.lemmas.Bool.{and_parts}
use Rattle.std.proofs.lemmas.List.{length-append}
use Rattle.xv_base.specs.declared.event.Event.TheVariants.{Guest, Release}
use Rattle.xv_model.specs.Job.{Job, IsGoodJob, UnitOp, operation, trace}
use Rattle.xv_model.specs.Guest.{Ended, ended, is_done, reads, read_bytes}
use Rattle.xv_model.specs.View.{View, first_view, disk, front}
use Rattle.xv_model.specs.Wait.{Event, Why, Aim, Alone, Store, Join, Mirror, wait, fits, next_operation, next_aim}
use Rattle.xv_model.specs.Effect.{effect, fault_effect, answer, fault_answer, guest_by, guest_answer, Turn}
use Rattle.xv_base.specs.declared.operation.Outcome.TheVariants.{Done, Faulted}
use Rattle.xv_model.specs.Step.{Entry, step, turn, view_by, turn_by, breaks, is_wait, is_flagged, same_turn, after, is_run_from}
use Rattle.xv_model.specs.Story.{Story, first_story, told, story_on, story_of}
use Rattle.xv_model.specs.Invariant.{IsViewOf}
use Rattle.xv_model.proofs.Histories.{push, reads-push_before}
use Rattle.xv_model.proofs.GoesOn.{guest_goes, release_goes}
use Rattle.xv_model.proofs.Legal.{front_writes, front_has_more}
use Rattle.xv_model.proofs.Bound.Runs.{agrees-goes}
use Rattle.xv_model.proofs.Journal.Ways.{same_turn-is}
use Rattle.xv_model.proofs.First.{first_view-holds}
use Rattle.xv_model.proofs.Kept.{step-holds}
use Rattle.xv_model.proofs.Story.Views.{story_in}
use Rattle.xv_model.proofs.Story.Runs.{story-is}
use Rattle.xv_model.proofs.Story.Answers.{turn-told}
use Rattle.xv_job.specs.Written.{job_of}
use Rattle.xv_script.specs.Lines.{turn_line}
use Rattle.xv_core.specs.Losing.{read_between}
use Rattle.xv_core.specs.Reads.{read_length}
use Rattle.xv_core.specs.Seen.{Seen}
use Rattle.xv_core.proofs.Stepped.ReadsBehind.{step-adds, reads-more, past-reads-none}
use Rattle.xv_core.proofs.Keeping.Reads.{length-reads-push}
use Rattle.xv_parts.specs.Memory.{IsInMemory}
use Rattle.xv_parts.proofs.Reading.{holds}
use Rattle.xv_run.specs.Journal.{bytes_of, bytes_read, is_short, lines_behind, lines_with, journal_text}

-- an event that ends no operation reads nothing, and one that ends an operation what that reads
none-added : (job : Job) (h : List Ended) → length (read_bytes job h (length h)) ≡ 0
none-added job h = ap (λ (bs : List ℕ). length bs) (past-reads-none job h)

one-added : (job : Job) (h : List Ended) (e : Ended) → IsGoodJob job → ((g : ℕ) → ended h g ≤ length (trace job g)) → ended h e.guest.0 < length (trace job e.guest.0)
    → length (read_bytes job (push h e) (length h)) ≡ (if is_done e.outcome then read_length (operation job e.guest.0 (ended h e.guest.0)) else 0)
one-added job h e good legal more =
    let grown = length-reads-push job h e good legal more in
    let next : reads job (push h e) (length h + 1) ≡ reads job (push h e) (length h) ++ read_bytes job (push h e) (length h) = ap (reads job (push h e)) (add-one (length h)) in
    omega (arith, grown, ap (λ (bs : List ℕ). length bs) next, length-append (reads job (push h e) (length h)) (read_bytes job (push h e) (length h)), ap (λ (bs : List ℕ). length bs) (reads-push_before job h e (length h) (omega arith)))

-- a guest's event tells the length of what it reads
told-length : (write : Option (List ℕ)) (len : ℕ) → (if is_none write then len else 0) ≡ (if is_some write then 0 else len)
told-length None len = refl
told-length (Some pattern) len = refl

guest-reads : (job : Job) (v : View) (g : ℕ) (a : Aim) → IsGoodJob job → IsViewOf job v → ended v.history g < length (trace job g)
    → length (read_bytes job (guest_by job v g (next_operation job v g) a).history (length v.history)) ≡ bytes_of (Guest (record { 0 = g })) (guest_answer (next_operation job v g) a)
guest-reads job v g Join good inv more = none-added job v.history
guest-reads job v g Alone good inv more =
    one-added job v.history (record { guest = record { 0 = g }; outcome = Done }) good inv.history.legal more
    ∙ told-length (next_operation job v g).write (next_operation job v g).len
guest-reads job v g Store good inv more =
    one-added job v.history (record { guest = record { 0 = g }; outcome = Done }) good inv.history.legal more
    ∙ told-length (next_operation job v g).write (next_operation job v g).len
guest-reads job v g Mirror good inv more =
    one-added job v.history (record { guest = record { 0 = g }; outcome = Done }) good inv.history.legal more
    ∙ told-length (next_operation job v g).write (next_operation job v g).len

-- a write that waited in a queue reads nothing
write-reads : (write : Option (List ℕ)) (len : ℕ) (at : Bool) → (is_some write && at) ≡ true → (if is_none write then len else 0) ≡ 0
write-reads None len at is = absurd (cc)
write-reads (Some pattern) len at is = refl

front-reads : (job : Job) (v : View) (d : ℕ) → IsGoodJob job → IsViewOf job v → 0 < length (disk v d).queue → length (read_bytes job (effect job v (Release d)).history (length v.history)) ≡ 0
front-reads job v d good inv some =
    let op = next_operation job v (front (disk v d)).guest.0 in
    one-added job v.history (record { guest = (front (disk v d)).guest; outcome = Done }) good inv.history.legal (front_has_more job v d inv some)
    ∙ write-reads op.write op.len (op.unit.0 == (front (disk v d)).unit.0) (front_writes job v d inv some)

went-reads : (job : Job) (v : View) (e : Event) (flag : Bool) → IsGoodJob job → IsViewOf job v → wait job v e flag ≡ None → length (read_bytes job (effect job v e).history (length v.history)) ≡ bytes_of e (answer job v e)
went-reads job v (Guest g) flag good inv goes = guest-reads job v g.0 (next_aim job v g.0) good inv (guest_goes job v g.0 flag goes).more
went-reads job v (Release d) flag good inv goes = front-reads job v d good inv (release_goes job v d flag goes).some_queue
went-reads job v e flag good inv goes = none-added job v.history

failed-reads : (job : Job) (v : View) (e : Event) (flag : Bool) → IsGoodJob job → IsViewOf job v → wait job v e flag ≡ None → length (read_bytes job (fault_effect v e).history (length v.history)) ≡ bytes_of e (fault_answer e)
failed-reads job v (Guest g) flag good inv goes =
    one-added job v.history (record { guest = record { 0 = g.0 }; outcome = Faulted }) good inv.history.legal (guest_goes job v g.0 flag goes).more
failed-reads job v (Release d) flag good inv goes =
    one-added job v.history (record { guest = record { 0 = (front (disk v d)).guest.0 }; outcome = Faulted }) good inv.history.legal (front_has_more job v d inv (release_goes job v d flag goes).some_queue)
failed-reads job v e flag good inv goes = none-added job v.history

turn-reads : (job : Job) (v : View) (e : Event) (flag : Bool) (why : Option Why) (broken : Bool) → IsGoodJob job → IsViewOf job v → wait job v e flag ≡ why → is_wait (turn_by why broken job v e) ≡ false
    → length (read_bytes job (view_by why broken job v e).history (length v.history)) ≡ bytes_of e (turn_by why broken job v e)
turn-reads job v e flag (Some why) broken good inv goes on = absurd (cc)
turn-reads job v e flag None false good inv goes on = went-reads job v e flag good inv goes
turn-reads job v e flag None true good inv goes on = failed-reads job v e flag good inv goes

-- the bytes that one entry reads, and those of all that follow
abbrev read_here : Job → View → Entry → List ℕ
read_here job v e = read_bytes job (step job v e.event (is_flagged e.turn)).history (length v.history)

abbrev read_from : Job → View → List Entry → List ℕ
read_from job v [] = []
read_from job v (e ∷ es) = read_here job v e ++ read_from job (step job v e.event (is_flagged e.turn)) es

entry-reads : (job : Job) (v : View) (e : Entry) → IsGoodJob job → IsViewOf job v → same_turn e.turn (turn job v e.event (is_flagged e.turn)) ≡ true → length (read_here job v e) ≡ bytes_read e
entry-reads job v e good inv same =
    let flag = is_flagged e.turn in
    let own = turn job v e.event flag in
    turn-reads job v e.event flag (wait job v e.event flag) (breaks job v e.event flag) good inv refl (agrees-goes e.turn own same)
    ∙ ap (bytes_of e.event) (sym (same_turn-is e.turn own same))

all-read : (job : Job) (v : View) (es : List Entry) → reads job (after job v es).history (length (after job v es).history) ≡ reads job v.history (length v.history) ++ read_from job v es
all-read job v [] = sym (append-nil (reads job v.history (length v.history)))
all-read job v (e ∷ es) =
    let flag = is_flagged e.turn in
    let next = step job v e.event flag in
    all-read job next es
    ∙ ap (λ (bs : List ℕ). bs ++ read_from job next es) (reads-more job v.history next.history (step-adds job v e.event flag))
    ∙ append_assoc (reads job v.history (length v.history)) (read_here job v e) (read_from job next es)

-- the lines behind entries that have a view's story
story-one : (job : Job) (s : Story) (before : List Entry) (e : Entry) → story_on job s (before ++ e ∷ []) ≡ told job (story_on job s before) e.event e.turn
story-one job s [] e = refl
story-one job s (x ∷ xs) e = story-one job (told job s x.event x.turn) xs e

story-more : (job : Job) (v : View) (before : List Entry) (e : Entry) → story_of job before ≡ story_in v → same_turn e.turn (turn job v e.event (is_flagged e.turn)) ≡ true
    → story_of job (before ++ e ∷ []) ≡ story_in (step job v e.event (is_flagged e.turn))
story-more job v before e is same =
    let flag = is_flagged e.turn in
    let own = turn job v e.event flag in
    story-one job (first_story job) before e
    ∙ ap (λ (s : Story). told job s e.event e.turn) is
    ∙ ap (told job (story_in v) e.event) (same_turn-is e.turn own same)
    ∙ turn-told job v e.event flag (wait job v e.event flag) (breaks job v e.event flag) refl (agrees-goes e.turn own same)

lines-told : (job : Job) (v : View) (before es : List Entry) → IsGoodJob job → list_all (λ (e : Entry). fits job e.event) es ≡ true → IsViewOf job v → is_run_from job v es ≡ true → story_of job before ≡ story_in v
    → lines_behind job before es ≡ lines_with es (read_from job v es)
lines-told job v before [] good fitting inv runs is = refl
lines-told job v before (e ∷ es) good fitting inv runs is =
    let flag = is_flagged e.turn in
    let next = step job v e.event flag in
    let fit = and_parts (fits job e.event) (list_all (λ (x : Entry). fits job x.event) es) fitting in
    let ran = and_parts (same_turn e.turn (turn job v e.event flag)) (is_run_from job next es) runs in
    let later = before ++ e ∷ [] in
    let here = read_here job v e in
    let rest = read_from job next es in
    let long : length here ≡ bytes_read e = entry-reads job v e good inv ran.0 in
    let more : story_of job later ≡ story_in next = story-more job v before e is ran.0 in
    let between : read_between job before later ≡ here =
    ap (λ (s : Story). read_bytes job s.history (length (story_of job before).history)) more
    ∙ ap (λ (s : Story). read_bytes job next.history (length s.history)) is in
    ap (λ (bs : List ℕ). turn_line e.event e.turn bs ++ lines_behind job later es) (between ∙ sym (take_at here rest (bytes_read e) long))
    ∙ ap (λ (text : List ℕ). turn_line e.event e.turn (take (bytes_read e) (here ++ rest)) ++ text)
    (lines-told job next later es good fit.1 (step-holds job v e.event flag good fit.0 inv) ran.1 more
    ∙ ap (lines_with es) (sym (drop_at here rest (bytes_read e) long)))

-- every read is short
one-short : (write : Option (List ℕ)) (len : ℕ) → (is_some write ≡ false → len ≤ 64) → (if is_some write then 0 else len) ≤ 64
one-short None len short = short refl
one-short (Some pattern) len short = omega arith

guest-short : (g : Event) (op : UnitOp) (a : Aim) → (is_some op.write ≡ false → op.len ≤ 64) → bytes_of g (guest_answer op a) ≤ 64
guest-short (Guest g) op Join short = omega arith
guest-short (Guest g) op Alone short = one-short op.write op.len short
guest-short (Guest g) op Store short = one-short op.write op.len short
guest-short (Guest g) op Mirror short = one-short op.write op.len short
guest-short e op a short = omega arith

went-short : (job : Job) (v : View) (e : Event) (flag : Bool) → IsGoodJob job → wait job v e flag ≡ None → bytes_of e (answer job v e) ≤ 64
went-short job v (Guest g) flag good goes =
    guest-short (Guest g) (next_operation job v g.0) (next_aim job v g.0) (good.legal g.0 (ended v.history g.0) (guest_goes job v g.0 flag goes).more).short_read
went-short job v e flag good goes = omega arith

failed-short : (e : Event) → bytes_of e (fault_answer e) ≤ 64
failed-short (Guest g) = omega arith
failed-short e = omega arith

turn-short : (job : Job) (v : View) (e : Event) (flag : Bool) (why : Option Why) (broken : Bool) → IsGoodJob job → wait job v e flag ≡ why → is_wait (turn_by why broken job v e) ≡ false → bytes_of e (turn_by why broken job v e) ≤ 64
turn-short job v e flag (Some why) broken good goes on = absurd (cc)
turn-short job v e flag None false good goes on = went-short job v e flag good goes
turn-short job v e flag None true good goes on = failed-short e

entry-short : (job : Job) (v : View) (e : Entry) → IsGoodJob job → same_turn e.turn (turn job v e.event (is_flagged e.turn)) ≡ true → bytes_read e ≤ 64
entry-short job v e good same =
    let flag = is_flagged e.turn in
    let own = turn job v e.event flag in
    subst (λ (t : Turn). bytes_of e.event t ≤ 64) (sym (same_turn-is e.turn own same))
    (turn-short job v e.event flag (wait job v e.event flag) (breaks job v e.event flag) good refl (agrees-goes e.turn own same))

all-short : (job : Job) (v : View) (es : List Entry) → IsGoodJob job → is_run_from job v es ≡ true → list_all is_short es ≡ true
all-short job v [] good runs = refl
all-short job v (e ∷ es) good runs =
    let flag = is_flagged e.turn in
    let next = step job v e.event flag in
    let ran = and_parts (same_turn e.turn (turn job v e.event flag)) (is_run_from job next es) runs in
    ap (λ (b : Bool). b && list_all is_short es) (le-leb (bytes_read e) 64 (entry-short job v e good ran.0)) ∙ all-short job next es good ran.1

-- The same of a migration in memory.
pub journal-short : (m : Seen) → IsInMemory m → list_all is_short m.journal ≡ true
journal-short m h = all-short (job_of m.job) (first_view (job_of m.job)) m.journal h.kept.good h.kept.is_run

journal-lines : (m : Seen) → IsInMemory m → lines_with m.journal m.reads ≡ journal_text (job_of m.job) m.journal
unfolding journal_text
journal-lines m h =
    let job = job_of m.job in
    let first = first_view job in
    let kept = h.kept in
    ap (lines_with m.journal) ((holds m h).reads ∙ all-read job first m.journal)
    ∙ sym (lines-told job first [] m.journal kept.good kept.fitting (first_view-holds job kept.good) kept.is_run (story-is job [] refl))

pub lines-are : (m : Seen) (journal : List Entry) (bytes : List ℕ) → IsInMemory m → journal ≡ m.journal → bytes ≡ m.reads → lines_with journal bytes ≡ journal_text (job_of m.job) m.journal
lines-are m journal bytes h told read =
    ap (λ (es : List Entry). lines_with es bytes) told ∙ ap (lines_with m.journal) read ∙ journal-lines m h

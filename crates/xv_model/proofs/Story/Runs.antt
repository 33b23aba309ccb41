-- The story of a run is what the view that it ends in has of one.
use Rattle.std.specs.Prelude.{◌≡◌, ℕ, suc, zero, nat_lt, ◌==◌, Bool, true, false, List, [], ◌∷◌, map, replicate, get_or}
use Rattle.std.proofs.Common.{refl, ap, ◌∙◌}
use Rattle.std.proofs.lemmas.Bool.{and_parts, eqb-true}
use Rattle.xv_base.specs.declared.unit.DiskShape.{DiskShape}
use Rattle.xv_model.specs.Job.{Job, unit_count}
use Rattle.xv_model.specs.View.{View, first_view, number, disk, no_disk}
use Rattle.xv_model.specs.Wait.{wait}
use Rattle.xv_model.specs.Effect.{Turn, Note}
use Rattle.xv_model.specs.Step.{Entry, step, turn, breaks, after, run, is_flagged, same_note, same_cause, same_turn, is_run_from, is_run}
use Rattle.xv_model.specs.Story.{Story, first_story, told, story_on, story_of, queue, was_written}
use Rattle.xv_base.specs.declared.answer.Turn.TheVariants.{Done, Queued, Faulted, Failed}
use Rattle.xv_base.specs.declared.answer.Cause.{Cause}
use Rattle.xv_base.specs.declared.answer.Cause.TheVariants.{SourceRead, DestWrite, Flush, Put, Take, AckPut, AckTake}
use Rattle.xv_model.proofs.Bound.Runs.{agrees-goes}
use Rattle.xv_model.proofs.Story.Views.{queued, has_some, story_in, queue-in}
use Rattle.xv_model.proofs.Story.Answers.{turn-told}

-- equal answers are one
abbrev note_of : ℕ → ℕ → Note
note_of a b = record { a = a; b = b }

same-note : (m n : Note) → same_note m n ≡ true → m ≡ n
same-note m n h =
    let both = and_parts (m.a == n.a) (m.b == n.b) h in
    ap (λ (a : ℕ). note_of a m.b) (eqb-true m.a n.a both.0) ∙ ap (note_of n.a) (eqb-true m.b n.b both.1)

same-cause : (c d : Cause) → same_cause c d ≡ true → c ≡ d
same-cause SourceRead SourceRead h = refl
same-cause DestWrite DestWrite h = refl
same-cause Flush Flush h = refl
same-cause (Put s) (Put t) h = ap Put (eqb-true s t h)
same-cause (Take s) (Take t) h = ap Take (eqb-true s t h)
same-cause AckPut AckPut h = refl
same-cause AckTake AckTake h = refl
same-cause c d h = absurd (cc)

same-turn : (s t : Turn) → same_turn s t ≡ true → s ≡ t
same-turn (Done m) (Done n) h = ap Done (same-note m n h)
same-turn Queued Queued h = refl
same-turn Faulted Faulted h = refl
same-turn (Failed c) (Failed d) h = ap Failed (same-cause c d h)
same-turn s t h = absurd (cc)

-- one entry of a run, and a whole run from any view
told-step : (job : Job) (v : View) (e : Entry) → same_turn e.turn (turn job v e.event (is_flagged e.turn)) ≡ true → told job (story_in v) e.event e.turn ≡ story_in (step job v e.event (is_flagged e.turn))
told-step job v e same =
    let flag = is_flagged e.turn in
    let own = turn job v e.event flag in
    ap (told job (story_in v) e.event) (same-turn e.turn own same)
    ∙ turn-told job v e.event flag (wait job v e.event flag) (breaks job v e.event flag) refl (agrees-goes e.turn own same)

story-on : (job : Job) (v : View) (journal : List Entry) → is_run_from job v journal ≡ true → story_on job (story_in v) journal ≡ story_in (after job v journal)
story-on job v [] runs = refl
story-on job v (e ∷ es) runs =
    let next = step job v e.event (is_flagged e.turn) in
    let both = and_parts (same_turn e.turn (turn job v e.event (is_flagged e.turn))) (is_run_from job next es) runs in
    ap (λ (s : Story). story_on job s es) (told-step job v e both.0) ∙ story-on job next es both.1

-- the first view has the first story
first-queues : (disks : List DiskShape) → map (λ _. []) disks ≡ map queued (map (λ _. no_disk) disks)
first-queues [] = refl
first-queues (d ∷ ds) = ap (λ (qs : List (List ℕ)). [] ∷ qs) (first-queues ds)

first-written : (n : ℕ) → replicate n false ≡ map has_some (replicate n 0)
first-written zero = refl
first-written (suc n) = ap (λ (bs : List Bool). false ∷ bs) (first-written n)

first-story : (job : Job) → first_story job ≡ story_in (first_view job)
first-story job =
    ap (λ (qs : List (List ℕ)). record (first_story job) { queues = qs }) (first-queues job.copy.disks)
    ∙ ap (λ (bs : List Bool). record (story_in (first_view job)) { written = bs }) (first-written (unit_count job))

pub story-is : (job : Job) (journal : List Entry) → is_run job journal ≡ true → story_of job journal ≡ story_in (run job journal)
story-is job journal runs = ap (λ (s : Story). story_on job s journal) (first-story job) ∙ story-on job (first_view job) journal runs

-- its parts
pub written-in : (applied : List ℕ) (unit : ℕ) → get_or (map has_some applied) unit false ≡ nat_lt 0 (number applied unit)
written-in [] unit = refl
written-in (n ∷ ns) zero = refl
written-in (n ∷ ns) (suc unit) = written-in ns unit

pub story-queue : (job : Job) (journal : List Entry) (d : ℕ) → is_run job journal ≡ true → queue (story_of job journal) d ≡ map (λ w. w.guest.0) (disk (run job journal) d).queue
story-queue job journal d runs = ap (λ (s : Story). queue s d) (story-is job journal runs) ∙ queue-in (run job journal).disks d

pub story-written : (job : Job) (journal : List Entry) (unit : ℕ) → is_run job journal ≡ true → was_written (story_of job journal) unit ≡ nat_lt 0 (number (run job journal).hold.applied unit)
story-written job journal unit runs = ap (λ (s : Story). was_written s unit) (story-is job journal runs) ∙ written-in (run job journal).hold.applied unit

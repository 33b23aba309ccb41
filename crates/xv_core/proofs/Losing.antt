-- A kept migration loses no write: its view has the story of its journal, and what is kept of the view is said of that.
use Rattle.std.specs.Prelude.{◌≡◌, ◌<◌, ℕ, nat_lt, ◌||◌, Bool, true, false, List, [], ◌∷◌, ◌++◌, length, drop, get_or, unwrap_or, Option, if◌then◌else◌}
use Rattle.std.proofs.Common.{refl, ap, sym, ◌∙◌, subst, arith, append-nil}
use Rattle.std.proofs.lemmas.Bool.{and_from}
use Rattle.std.proofs.Math.Seq.{drop-append_seam}
use Rattle.xv_base.specs.declared.event.Event.TheVariants.{Guest, Release, Apply, Stun, Switch}
use Rattle.xv_base.specs.declared.answer.Turn.TheVariants.{Done as Happened, Faulted as Broke}
use Rattle.xv_base.specs.declared.operation.Outcome.TheVariants.{Done, Faulted}
use Rattle.xv_model.specs.Job.{Job, unit_count}
use Rattle.xv_model.specs.Guest.{content, reads, read_bytes}
use Rattle.xv_model.specs.View.{number, is_stunned, is_switched}
use Rattle.xv_model.specs.Wait.{Event}
use Rattle.xv_model.specs.Effect.{Turn}
use Rattle.xv_model.specs.Step.{Entry, is_wait}
use Rattle.xv_model.specs.Story.{Story, first_story, told, story_on, story_of, queue, was_written}
use Rattle.xv_model.proofs.Story.Views.{story_in}
use Rattle.xv_model.proofs.Story.Runs.{story-is, written-in}
use Rattle.xv_job.specs.Written.{Written, job_of}
use Rattle.xv_core.specs.Seen.{Seen, view_of}
use Rattle.xv_core.specs.Keeping.{IsKept, HoldsGuest, tells}
use Rattle.xv_core.specs.Stepped.{KeepsUnwritten, IsStep}
use Rattle.xv_core.specs.Losing.{HasGuest, HasGuestAtStun, IsBehind, LosesNothingBy, story, LosesNothing, LeavesUnwritten, read_between}
use Rattle.xv_core.proofs.Stepped.ReadsBehind.{AddsOne, none-added, one-added, reads-more}

or-true : (b c : Bool) → c ≡ true → (b || c) ≡ true
or-true true c e = refl
or-true false c e = e

or-false : (b c : Bool) → b ≡ false → c ≡ false → (b || c) ≡ false
or-false b c e f = ap (λ (x : Bool). x || c) e ∙ f

-- before the switchover the source has the whole history, and after it the destination does
source-has : (m : Seen) → HoldsGuest m → is_switched (view_of m).phase ≡ false → HasGuest (story_in (view_of m)) m m.source (length (view_of m).history)
source-has m holds off unit there =
    let v = view_of m in
    holds.source unit there
    ∙ ap (λ (b : Bool). content (job_of m.job) v.history unit (if b then unwrap_or v.stun 0 else length v.history)) off

dest-has : (m : Seen) → HoldsGuest m → is_switched (view_of m).phase ≡ true → HasGuest (story_in (view_of m)) m m.dest (length (view_of m).history)
dest-has m holds on unit there =
    let v = view_of m in
    holds.dest unit there (ap (λ (b : Bool). b || nat_lt 0 (number v.hold.applied unit)) on)
    ∙ ap (λ (b : Bool). content (job_of m.job) v.history unit (if b then length v.history else number v.hold.recorded unit)) on

owner-by : (m : Seen) → HoldsGuest m → (b : Bool) → is_switched (view_of m).phase ≡ b → HasGuest (story_in (view_of m)) m (if b then m.dest else m.source) (length (view_of m).history)
owner-by m holds true on = dest-has m holds on
owner-by m holds false off = source-has m holds off

stunned-has : (m : Seen) → IsKept m → HoldsGuest m → is_switched (view_of m).phase ≡ true → HasGuestAtStun (story_in (view_of m)) m
stunned-has m kept holds on =
    let v = view_of m in
    let at = kept.view.quiet.has_stun (or-true (is_stunned v.phase) (is_switched v.phase) on) in
    record {
      n = v.mark;
      at = at;
      source = λ unit there.
          holds.source unit there
          ∙ ap (λ (b : Bool). content (job_of m.job) v.history unit (if b then unwrap_or v.stun 0 else length v.history)) on
          ∙ ap (λ (stun : Option ℕ). content (job_of m.job) v.history unit (unwrap_or stun 0)) at;
    }

behind-has : (m : Seen) → IsKept m → HoldsGuest m → (unit : ℕ) → unit < unit_count (job_of m.job) → is_switched (view_of m).phase ≡ false → nat_lt 0 (number (view_of m).hold.applied unit) ≡ true → IsBehind (story_in (view_of m)) m unit
behind-has m kept holds unit there off some =
    let v = view_of m in
    let to_mark = kept.view.times.recorded_to_mark unit in
    let within = kept.view.history.mark_within in
    record {
      n = number v.hold.recorded unit;
      within = omega arith;
      is =
          holds.dest unit there (or-true (is_switched v.phase) (nat_lt 0 (number v.hold.applied unit)) some)
          ∙ ap (λ (b : Bool). content (job_of m.job) v.history unit (if b then length v.history else number v.hold.recorded unit)) off;
    }

loses-by : (m : Seen) → IsKept m → HoldsGuest m → LosesNothingBy (story_in (view_of m)) m
loses-by m kept holds = record {
  in_order = kept.view.history.legal;
  holds = owner-by m holds (is_switched (view_of m).phase) refl;
  reads = holds.reads;
  stunned = stunned-has m kept holds;
  behind = λ unit there off some. behind-has m kept holds unit there off (sym (written-in (view_of m).hold.applied unit) ∙ some);
}

story-kept : (m : Seen) → IsKept m → story m ≡ story_in (view_of m)
story-kept m kept = story-is (job_of m.job) m.journal kept.is_run

pub loses-nothing : (m : Seen) → IsKept m → tells m.source ≡ true → tells m.dest ≡ true → LosesNothing m
loses-nothing m kept source dest =
    subst (λ (s : Story). LosesNothingBy s m) (sym (story-kept m kept)) (loses-by m kept (kept.contents (and_from (tells m.source) (tells m.dest) source dest)))

pub leaves-unwritten : (start m : Seen) → IsKept m → KeepsUnwritten start m → LeavesUnwritten start m
leaves-unwritten start m kept unwritten = record {
  units = λ unit off none.
      let same = story-kept m kept in
      let switched : is_switched (view_of m).phase ≡ false = sym (ap (λ (s : Story). s.switched) same) ∙ off in
      let applied : nat_lt 0 (number (view_of m).hold.applied unit) ≡ false = sym (written-in (view_of m).hold.applied unit) ∙ sym (ap (λ (s : Story). was_written s unit) same) ∙ none in
      unwritten.units unit (or-false (is_switched (view_of m).phase) (nat_lt 0 (number (view_of m).hold.applied unit)) switched applied);
}

-- a story that goes on over one entry more, and what that adds to its history
story-one : (job : Job) (s : Story) (journal : List Entry) (e : Entry) → story_on job s (journal ++ e ∷ []) ≡ told job (story_on job s journal) e.event e.turn
story-one job s [] e = refl
story-one job s (x ∷ xs) e = story-one job (told job s x.event x.turn) xs e

told-adds : (job : Job) (s : Story) (e : Event) (a : Turn) → AddsOne s.history (told job s e a).history
told-adds job s (Guest g) (Happened note) = one-added s.history (record { guest = record { 0 = g.0 }; outcome = Done })
told-adds job s (Guest g) Broke = one-added s.history (record { guest = record { 0 = g.0 }; outcome = Faulted })
told-adds job s (Release d) (Happened note) = one-added s.history (record { guest = record { 0 = get_or (queue s d) 0 0 }; outcome = Done })
told-adds job s (Release d) Broke = one-added s.history (record { guest = record { 0 = get_or (queue s d) 0 0 }; outcome = Faulted })
told-adds job s Apply (Happened note) = none-added s.history
told-adds job s Stun (Happened note) = none-added s.history
told-adds job s Switch (Happened note) = none-added s.history
told-adds job s e a = none-added s.history

entry-adds : (job : Job) (journal : List Entry) (e : Event) (a : Turn) (b : Bool) → is_wait a ≡ b → AddsOne (story_of job journal).history (story_of job (journal ++ (if b then [] else record { event = e; turn = a } ∷ []))).history
entry-adds job journal e a true waits = subst (λ (es : List Entry). AddsOne (story_of job journal).history (story_of job es).history) (sym (append-nil journal)) (none-added (story_of job journal).history)
entry-adds job journal e a false goes =
    subst (λ (t : Story). AddsOne (story_of job journal).history t.history)
    (sym (story-one job (first_story job) journal (record { event = e; turn = a })))
    (told-adds job (story_of job journal) e a)

story-adds : (old new : Seen) (e : Event) (a : Turn) → IsStep old e a new → AddsOne (story old).history (story_of (job_of old.job) new.journal).history
story-adds old new e a s =
    subst (λ (es : List Entry). AddsOne (story old).history (story_of (job_of old.job) es).history) (sym s.journal)
    (entry-adds (job_of old.job) old.journal e a (is_wait a) refl)

pub reads-told : (old new : Seen) (e : Event) (a : Turn) → IsKept old → IsKept new → IsStep old e a new → tells old.source ≡ true → tells old.dest ≡ true → drop (length old.reads) new.reads ≡ read_between (job_of old.job) old.journal new.journal
reads-told old new e a kept_old kept_new s source dest =
    let job = job_of old.job in
    let before = (story old).history in
    let after = (story_of job new.journal).history in
    let here : old.reads ≡ reads job before (length before) = (loses-nothing old kept_old source dest).reads in
    let later : new.reads ≡ reads job after (length after) =
    (loses-nothing new kept_new (s.tells.source ∙ source) (s.tells.dest ∙ dest)).reads
    ∙ ap (λ (w : Written). reads (job_of w) (story_of (job_of w) new.journal).history (length (story_of (job_of w) new.journal).history)) s.job in
    let whole : new.reads ≡ old.reads ++ read_bytes job after (length before) =
    later ∙ reads-more job before after (story-adds old new e a s)
    ∙ ap (λ (bs : List ℕ). bs ++ read_bytes job after (length before)) (sym here) in
    ap (drop (length old.reads)) whole ∙ drop-append_seam old.reads (read_bytes job after (length before))

-- A running migration keeps running over each event that happens.
use Rattle.std.specs.Prelude.{◌≡◌, ◌&&◌, ◌==◌, Bool, true, false, List, [], ◌∷◌, ◌++◌, length, Option, Some, None, is_some, option_map}
use Rattle.std.specs.List.{list_all}
use Rattle.std.proofs.Common.{refl, ap, sym, subst, ◌∙◌}
use Rattle.xv_model.specs.Guest.{reads}
use Rattle.std.proofs.lemmas.Bool.{and_from, eq-eqb}
use Rattle.std.proofs.lemmas.List.Folds.{list_all-append}
use Rattle.xv_base.specs.declared.answer.Cause.{Cause}
use Rattle.xv_base.specs.declared.answer.Cause.TheVariants.{SourceRead, DestWrite, Flush, Put, Take, AckPut, AckTake}
use Rattle.xv_base.specs.declared.answer.Turn.TheVariants.{Done, Queued, Faulted, Wait as Waits, Failed as Broke}
use Rattle.xv_device.specs.Device.{DeviceCall}
use Rattle.xv_device.specs.Told.{Told}
use Rattle.xv_model.specs.Job.{Job, IsGoodJob}
use Rattle.xv_model.specs.View.{View}
use Rattle.xv_model.specs.Wait.{Event, fits}
use Rattle.xv_model.specs.Effect.{Turn}
use Rattle.xv_model.specs.Step.{Entry, turn, step, run, is_run, is_flagged, is_wait, same_cause, same_turn}
use Rattle.xv_model.specs.Contents.{HoldsContents}
use Rattle.xv_model.specs.Outside.{Outside, NoOutside, ReadSource, WriteSource, ReadDest, WriteDest, FlushDest, PutOn, TakeFrom, PutBack, TakeBack, outside}
use Rattle.xv_job.specs.Written.{Written, job_of}
use Rattle.xv_core.specs.Seen.{OnDevice}
use Rattle.xv_core.specs.Calls.{Made, CallsSource, CallsDest}
use Rattle.xv_core.specs.Keeping.{tells}
use Rattle.xv_core.specs.State.{State, view, shown, both_tell, contents_of, on_source, on_dest, ArePartsOf, IsRunning}
use Rattle.xv_core.specs.Happening.{OneCall, Happened}
use Rattle.xv_model.proofs.OneMore.{run-one, is_run-one}
use Rattle.xv_model.proofs.Contents.Steps.{contents-step}
use Rattle.xv_core.proofs.Keeping.Joined.{view-holds}

-- what a device tells, it tells after each call
map-tells : {A B : Type 0} (f : A → B) (o : Option A) → is_some (option_map f o) ≡ is_some o
map-tells f None = refl
map-tells f (Some x) = refl

untouched-tells : (before later : OnDevice) → later ≡ before → tells later ≡ tells before
untouched-tells before later e = ap tells e

made-tells : (call : DeviceCall) (failed : Bool) (before later : OnDevice) → Made call failed before later → tells later ≡ tells before
made-tells call failed before later made = ap (λ (t : Told). is_some t.contents) made.told ∙ map-tells _ before.told.contents

pub source-tells : (o : Outside) (failed : Bool) (before later : OnDevice) → CallsSource o failed before later → tells later ≡ tells before
source-tells NoOutside failed before later h = untouched-tells before later h
source-tells (ReadSource p) failed before later h = made-tells _ failed before later h
source-tells (WriteSource p) failed before later h = made-tells _ failed before later h.made
source-tells (ReadDest p) failed before later h = untouched-tells before later h
source-tells (WriteDest p) failed before later h = untouched-tells before later h
source-tells FlushDest failed before later h = untouched-tells before later h
source-tells (PutOn s) failed before later h = untouched-tells before later h
source-tells (TakeFrom s) failed before later h = untouched-tells before later h
source-tells PutBack failed before later h = untouched-tells before later h
source-tells TakeBack failed before later h = untouched-tells before later h

pub dest-tells : (o : Outside) (failed : Bool) (before later : OnDevice) → CallsDest o failed before later → tells later ≡ tells before
dest-tells NoOutside failed before later h = untouched-tells before later h
dest-tells (ReadSource p) failed before later h = untouched-tells before later h
dest-tells (WriteSource p) failed before later h = untouched-tells before later h
dest-tells (ReadDest p) failed before later h = made-tells _ failed before later h
dest-tells (WriteDest p) failed before later h = made-tells _ failed before later h.made
dest-tells FlushDest failed before later h = made-tells _ failed before later h
dest-tells (PutOn s) failed before later h = untouched-tells before later h
dest-tells (TakeFrom s) failed before later h = untouched-tells before later h
dest-tells PutBack failed before later h = untouched-tells before later h
dest-tells TakeBack failed before later h = untouched-tells before later h

pub both-tell : (o : Outside) (failed : Bool) (s t : State) → OneCall o failed s t → both_tell t ≡ both_tell s
both-tell o failed s t call =
    let source : is_some t.source.told.contents ≡ is_some s.source.told.contents = source-tells o failed (on_source s.source) (on_source t.source) call.source in
    let dest : is_some t.dest.told.contents ≡ is_some s.dest.told.contents = dest-tells o failed (on_dest s.dest) (on_dest t.dest) call.dest in
    ap (λ (b : Bool). b && is_some t.dest.told.contents) source ∙ ap (λ (b : Bool). is_some s.source.told.contents && b) dest

-- an answer that is no wait agrees with itself
same-cause : (c : Cause) → same_cause c c ≡ true
same-cause SourceRead = refl
same-cause DestWrite = refl
same-cause Flush = refl
same-cause (Put s) = eq-eqb s s refl
same-cause (Take s) = eq-eqb s s refl
same-cause AckPut = refl
same-cause AckTake = refl

same-turn : (a : Turn) → is_wait a ≡ false → same_turn a a ≡ true
same-turn (Done n) goes = and_from (n.a == n.a) (n.b == n.b) (eq-eqb n.a n.a refl) (eq-eqb n.b n.b refl)
same-turn Queued goes = refl
same-turn Faulted goes = refl
same-turn (Waits why) goes = absurd (cc)
same-turn (Broke cause) goes = same-cause cause

pub same-answer : (job : Job) (v : View) (e : Event) (a : Turn) → is_wait a ≡ false → a ≡ turn job v e (is_flagged a) → same_turn a (turn job v e (is_flagged a)) ≡ true
same-answer job v e a goes is = subst (λ (b : Turn). same_turn a b ≡ true) is (same-turn a goes)

-- the journal with one entry more
more-fitting : (job : Job) (journal : List Entry) (e : Event) (a : Turn) → list_all (λ (x : Entry). fits job x.event) journal ≡ true → fits job e ≡ true → list_all (λ (x : Entry). fits job x.event) (journal ++ record { event = e; turn = a } ∷ []) ≡ true
more-fitting job journal e a all one =
    list_all-append (λ (x : Entry). fits job x.event) journal (record { event = e; turn = a } ∷ [])
    ∙ and_from (list_all (λ (x : Entry). fits job x.event) journal) (fits job e && true) all (and_from (fits job e) true one refl)

-- The migration after an event that happened, of the job before it.
pub view-after : (s t : State) (e : Event) (a : Turn) → Happened s e a t → run (job_of s.job) t.journal ≡ step (job_of s.job) (view s) e (is_flagged a)
view-after s t e a h = ap (run (job_of s.job)) h.journal ∙ run-one (job_of s.job) s.journal (record { event = e; turn = a })

pub view-after-own : (s t : State) (e : Event) (a : Turn) → Happened s e a t → view t ≡ step (job_of s.job) (view s) e (is_flagged a)
view-after-own s t e a h = ap (λ (w : Written). run (job_of w) t.journal) h.job ∙ view-after s t e a h

runs-after : (s t : State) (e : Event) (a : Turn) → IsRunning s → Happened s e a t → is_run (job_of s.job) t.journal ≡ true
runs-after s t e a r h =
    let job = job_of s.job in
    let entry : Entry = record { event = e; turn = a } in
    ap (is_run job) h.journal ∙ is_run-one job s.journal entry
    ∙ and_from (is_run job s.journal) (same_turn a (turn job (view s) e (is_flagged a))) r.is_run (same-answer job (view s) e a h.goes_on h.answers)

contents-after : (s t : State) (e : Event) (a : Turn) → IsRunning s → Happened s e a t → both_tell t ≡ true → HoldsContents (job_of s.job) (step (job_of s.job) (view s) e (is_flagged a)) (contents_of t)
contents-after s t e a r h both =
    let job = job_of s.job in
    let told : both_tell s ≡ true = sym (both-tell (outside job (view s) e) (is_flagged a) s t h.calls) ∙ both in
    subst (HoldsContents job (step job (view s) e (is_flagged a))) (sym (h.contents told))
    (contents-step job (view s) (contents_of s) e (is_flagged a) r.good h.fitting (view-holds s r) (r.contents told))

pub keeps : (s t : State) (e : Event) (a : Turn) → IsRunning s → Happened s e a t → IsRunning t
keeps s t e a r h =
    let job = job_of s.job in
    let next = step job (view s) e (is_flagged a) in
    let same : view t ≡ next = view-after-own s t e a h in
    let own : s.job ≡ t.job = sym h.job in
    record {
      good = subst (λ (w : Written). IsGoodJob (job_of w)) own r.good;
      fitting = subst (λ (w : Written). list_all (λ (x : Entry). fits (job_of w) x.event) t.journal ≡ true) own
          (subst (λ (journal : List Entry). list_all (λ (x : Entry). fits job x.event) journal ≡ true) (sym h.journal) (more-fitting job s.journal e a r.fitting h.fitting));
      is_run = subst (λ (w : Written). is_run (job_of w) t.journal ≡ true) own (runs-after s t e a r h);
      parts = subst (λ (w : Written). ArePartsOf (job_of w) t.source t.dest t.streams t.back) own h.parts;
      shows = subst (λ (v : View). shown t v ≡ v) (sym same) h.shows;
      contents = λ both.
          subst (λ (v : View). HoldsContents (job_of t.job) v (contents_of t)) (sym same)
          (subst (λ (w : Written). HoldsContents (job_of w) next (contents_of t)) own (contents-after s t e a r h both));
      reads_long =
          subst (λ (v : View). length t.reads ≡ length (reads (job_of t.job) v.history (length v.history))) (sym same)
          (subst (λ (w : Written). length t.reads ≡ length (reads (job_of w) next.history (length next.history))) own h.reads_long);
    }

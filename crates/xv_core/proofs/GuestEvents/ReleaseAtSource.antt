-- The write at the front of a queue happened to the migration: it was done, or its call failed.
use Rattle.std.specs.Prelude.{◌≡◌, ◌<◌, length, is_none, ℕ, Bool, true, false, List, [], ◌∷◌, ◌++◌, get_or, Option, Some, None, is_some, if◌then◌else◌}
use Rattle.std.proofs.Common.{arith, refl, ap, sym, subst, ◌∙◌, append-nil}
use Rattle.xv_base.specs.declared.answer.Note.{Note}
use Rattle.xv_base.specs.declared.answer.Turn.TheVariants.{Done, Queued, Faulted, Wait as Waits, Failed as Broke}
use Rattle.xv_base.specs.declared.event.Event.TheVariants.{Release}
use Rattle.xv_base.specs.declared.operation.Outcome.{Outcome}
use Rattle.xv_base.specs.declared.operation.Outcome.TheVariants.{Done as WasDone, Faulted as HasFaulted}
use Rattle.xv_device.specs.Told.{Told}
use Rattle.xv_model.specs.Job.{Job, UnitOp, trace}
use Rattle.xv_model.specs.Guest.{Ended, ended, reads}
use Rattle.xv_model.specs.View.{View, Disk, Waiting, no_disk, disk, front}
use Rattle.xv_model.specs.Wait.{Why, wait, fits, next_operation}
use Rattle.xv_model.specs.Effect.{Turn, ended_as, with_disk, front_gone, released}
use Rattle.xv_model.specs.Step.{turn_by, view_by, step, is_wait}
use Rattle.xv_model.specs.Contents.{Contents, contents_by, step_contents, release_moves, front_operation}
use Rattle.xv_model.specs.Outside.{WriteSource, ReadSource, part_of}
use Rattle.xv_job.specs.Written.{job_of}
use Rattle.xv_source.specs.Half.{Source, IsSourceOf, HasSourceBytes}
use Rattle.xv_source.specs.Step.{StepsSource, MakesCall, operation_call}
use Rattle.xv_dest.specs.Half.{Dest, IsDestOf, with_dest}
use Rattle.xv_core.specs.State.{State, view, both_tell, contents_of, IsRunning, IsCarriedOver}
use Rattle.xv_core.specs.Happening.{OneCall, Happened}
use Rattle.xv_core.specs.Reads.{read_length}
use Rattle.xv_core.specs.Answered.{ended_by}
use Rattle.xv_model.proofs.Histories.{push}
use Rattle.xv_model.proofs.GoesOn.{release_goes}
use Rattle.xv_core.proofs.Keeping.Calls.{waits-in-front}
use Rattle.xv_core.proofs.Keeping.Joined.{shows, joined-contents, is_dest_of, has_source_bytes, has_dest_bytes}
use Rattle.xv_core.proofs.GuestEvents.Operating.{reads-longer, operated, happened, goes-on, calls-source, dest-bytes, source-is-whole}
use Rattle.xv_core.proofs.GuestEvents.AtSource.{ended-keeps-source}

-- the destination's part of the view after the write
released-keeps-dest : (job : Job) (v : View) (d : ℕ) (h : Dest) → IsDestOf job v h → IsDestOf job (released v d) h
released-keeps-dest job v d h is = record {
  shape = is.shape;
  limit = is.limit;
  part = subst (λ (u : View). with_dest (released u d) h ≡ released u d) is.part refl;
}

abbrev left_faulted : View → ℕ → ℕ → View
left_faulted v d g = with_disk (ended_as v g HasFaulted) d (front_gone (disk v d))

faulted-keeps-dest : (job : Job) (v : View) (d g : ℕ) (h : Dest) → IsDestOf job v h → IsDestOf job (left_faulted v d g) h
faulted-keeps-dest job v d g h is = record {
  shape = is.shape;
  limit = is.limit;
  part = subst (λ (u : View). with_dest (left_faulted u d g) h ≡ left_faulted u d g) is.part refl;
}

-- the write ends by its own answers alone
abbrev is_ending : Turn → Bool
is_ending (Done n) = true
is_ending Queued = false
is_ending Faulted = true
is_ending (Waits why) = true
is_ending (Broke cause) = false

ends-so : (w : Option Why) (b : Bool) (job : Job) (v : View) (d : ℕ) → is_ending (turn_by w b job v (Release d)) ≡ true
ends-so (Some why) b job v d = refl
ends-so None true job v d = refl
ends-so None false job v d = refl

-- what the write had and did: who waited first, and the operation
pub record AtRelease (s : State) (d : ℕ) (a : Turn) (new : Source) (op : UnitOp) (w : Waiting) : Type 0 where
  pub running : IsRunning s
  pub carried : IsCarriedOver s.streams s.back
  pub fitting : fits (job_of s.job) (Release d) ≡ true
  pub goes_on : is_wait a ≡ false
  pub first : front (get_or s.source.disks d no_disk) ≡ w
  pub next : front_operation (job_of s.job) (view s) d ≡ op
  pub writes : is_some op.write ≡ true
  pub steps : StepsSource (job_of s.job) (view s) (Release d) a s.source new
  pub call : MakesCall (operation_call s.source.shape op) a s.source new

abbrev pub at_release : State → ℕ → Turn → Source → Waiting → State
at_release s d a new w = operated s (Release d) a (s.history ++ ended_by w.guest a) new s.dest s.reads

-- the history with the guest that waited first
one-more : (s : State) (d : ℕ) (o : Outcome) (w : Waiting) → IsRunning s → front (get_or s.source.disks d no_disk) ≡ w →
    (view s).history ++ record { guest = (front (disk (view s) d)).guest; outcome = o } ∷ [] ≡ s.history ++ record { guest = w.guest; outcome = o } ∷ []
one-more s d o w r first =
    let v = view s in
    ap (λ (h : List Ended). h ++ record { guest = (front (disk v d)).guest; outcome = o } ∷ []) (shows s r).history
    ∙ ap (λ (ds : List Disk). s.history ++ record { guest = (front (get_or ds d no_disk)).guest; outcome = o } ∷ []) (shows s r).disks
    ∙ ap (λ (x : Waiting). s.history ++ record { guest = x.guest; outcome = o } ∷ []) first

-- it reads nothing
record OneWrite (s : State) (g : ℕ) : Type 0 where
  open_still : ended (view s).history g < length (trace (job_of s.job) g)
  none : read_length (next_operation (job_of s.job) (view s) g) ≡ 0

no-read : (op : UnitOp) (write : Option (List ℕ)) → is_some write ≡ true → (if is_none write then op.len else 0) ≡ 0
no-read op None writes = absurd (cc)
no-read op (Some pattern) writes = refl

one-write : (s : State) (d : ℕ) (a : Turn) (new : Source) (op : UnitOp) (w : Waiting) → AtRelease s d a new op w → 0 < length (disk (view s) d).queue → OneWrite s w.guest.0
one-write s d a new op w x some =
    let here : 0 < length (get_or s.source.disks d no_disk).queue = subst (λ (ds : List Disk). 0 < length (get_or ds d no_disk).queue) (shows s x.running).disks some in
    let waits = waits-in-front s d x.running here in
    let g = (front (get_or s.source.disks d no_disk)).guest.0 in
    let own : next_operation (job_of s.job) (view s) g ≡ op = sym waits.operation ∙ x.next in
    let is : OneWrite s g = record { open_still = waits.more; none = subst (λ (o : UnitOp). read_length o ≡ 0) (sym own) (no-read op op.write x.writes) } in
    subst (λ (y : Waiting). OneWrite s y.guest.0) x.first is

release-reads : (s : State) (w : Waiting) (o : Outcome) → IsRunning s → OneWrite s w.guest.0 →
    length s.reads ≡ length (reads (job_of s.job) (push (view s).history (record { guest = w.guest; outcome = o })) (length (push (view s).history (record { guest = w.guest; outcome = o }))))
release-reads s w WasDone r one = omega (arith, reads-longer s (record { guest = w.guest; outcome = WasDone }) 0 r one.open_still (sym one.none))
release-reads s w HasFaulted r one = omega (arith, reads-longer s (record { guest = w.guest; outcome = HasFaulted }) 0 r one.open_still refl)

read-after : (s : State) (d : ℕ) (o : Outcome) (w : Waiting) → IsRunning s → front (get_or s.source.disks d no_disk) ≡ w → OneWrite s w.guest.0 →
    length s.reads ≡ length (reads (job_of s.job) (push (view s).history (record { guest = (front (disk (view s) d)).guest; outcome = o })) (length (push (view s).history (record { guest = (front (disk (view s) d)).guest; outcome = o }))))
read-after s d o w r first one =
    let job = job_of s.job in
    let h = (view s).history in
    let same : w ≡ front (disk (view s) d) = sym (ap (λ (ds : List Disk). front (get_or ds d no_disk)) (shows s r).disks ∙ first) in
    subst (λ (y : Waiting). length s.reads ≡ length (reads job (push h (record { guest = y.guest; outcome = o })) (length (push h (record { guest = y.guest; outcome = o }))))) same (release-reads s w o r one)

release-calls : (s t : State) (d : ℕ) (failed : Bool) (op : UnitOp) → front_operation (job_of s.job) (view s) d ≡ op → is_some op.write ≡ true →
    OneCall (if is_some op.write then WriteSource (part_of op) else ReadSource (part_of op)) failed s t → OneCall (WriteSource (part_of (front_operation (job_of s.job) (view s) d))) failed s t
release-calls s t d failed op next writes calls =
    subst (λ (o : UnitOp). OneCall (WriteSource (part_of o)) failed s t) (sym next) (subst (λ (b : Bool). OneCall (if b then WriteSource (part_of op) else ReadSource (part_of op)) failed s t) writes calls)

-- it was done
done-contents : (s : State) (d : ℕ) (n : Note) (new : Source) (op : UnitOp) (w : Waiting) → AtRelease s d (Done n) new op w → wait (job_of s.job) (view s) (Release d) false ≡ None → both_tell s ≡ true →
    contents_of (at_release s d (Done n) new w) ≡ step_contents (job_of s.job) (view s) (Release d) false (contents_of s)
done-contents s d n new op w x goes both =
    let job = job_of s.job in
    let v = view s in
    let c = contents_of s in
    let moved : step_contents job v (Release d) false c ≡ release_moves job v d c = ap (λ (y : Option Why). contents_by y false job v (Release d) c) goes in
    let has : HasSourceBytes (release_moves job v d c) new = subst (λ (e : Contents). HasSourceBytes e new) moved (x.steps.bytes c refl (has_source_bytes s both) (source-is-whole s x.running both)) in
    joined-contents (at_release s d (Done n) new w) (release_moves job v d c) refl refl has.part (dest-bytes (release_moves job v d c) s.dest refl refl) ∙ sym moved

release-done : (s : State) (d : ℕ) (n : Note) (new : Source) (op : UnitOp) (w : Waiting) → AtRelease s d (Done n) new op w → Happened s (Release d) (Done n) (at_release s d (Done n) new w)
release-done s d n new op w x =
    let job = job_of s.job in
    let v = view s in
    let shown = shows s x.running in
    let goes : wait job v (Release d) false ≡ None = goes-on job v (Release d) (Done n) x.steps.answers refl in
    let stepped : step job v (Release d) false ≡ released v d = ap (λ (y : Option Why). view_by y false job v (Release d)) goes in
    let made = x.call.made refl in
    let t = at_release s d (Done n) new w in
    happened s (Release d) (Done n) (s.history ++ record { guest = w.guest; outcome = WasDone } ∷ []) new s.dest s.reads (released v d) x.running x.carried (record {
      fitting = x.fitting;
      goes_on = refl;
      answers = x.steps.answers;
      stepped = stepped;
      rest = record {
        longer = one-more s d WasDone w x.running x.first;
        stun = shown.stun;
        phase = shown.phase;
        streams = shown.streams;
        acks = shown.acks;
      };
      of_source = subst (λ (u : View). IsSourceOf job u new) stepped (x.steps.part refl);
      of_dest = released-keeps-dest job v d s.dest (is_dest_of s x.running);
      source_layout = ap (λ (told : Told). told.shape) made.told;
      dest_layout = refl;
      contents = λ both. done-contents s d n new op w x goes both;
      read = [];
      behind = sym (append-nil s.reads);
      more_read = read-after s d WasDone w x.running x.first (one-write s d (Done n) new op w x (release_goes job v d false goes).some_queue);
      calls = release-calls s t d false op x.next x.writes (calls-source s.source.shape op op.write false s t made refl refl refl);
    })

-- its call failed
release-faulted : (s : State) (d : ℕ) (new : Source) (op : UnitOp) (w : Waiting) → AtRelease s d Faulted new op w → Happened s (Release d) Faulted (at_release s d Faulted new w)
release-faulted s d new op w x =
    let job = job_of s.job in
    let v = view s in
    let c = contents_of s in
    let g = (front (disk v d)).guest.0 in
    let shown = shows s x.running in
    let goes : wait job v (Release d) true ≡ None = goes-on job v (Release d) Faulted x.steps.answers refl in
    let stepped : step job v (Release d) true ≡ left_faulted v d g = ap (λ (y : Option Why). view_by y true job v (Release d)) goes in
    let kept : step_contents job v (Release d) true c ≡ c = ap (λ (y : Option Why). contents_by y true job v (Release d) c) goes in
    let made = x.call.made refl in
    let t = at_release s d Faulted new w in
    happened s (Release d) Faulted (s.history ++ record { guest = w.guest; outcome = HasFaulted } ∷ []) new s.dest s.reads (left_faulted v d g) x.running x.carried (record {
      fitting = x.fitting;
      goes_on = refl;
      answers = x.steps.answers;
      stepped = stepped;
      rest = record {
        longer = one-more s d HasFaulted w x.running x.first;
        stun = shown.stun;
        phase = shown.phase;
        streams = shown.streams;
        acks = shown.acks;
      };
      of_source = ended-keeps-source job (with_disk v d (front_gone (disk v d))) g HasFaulted new (x.steps.failed refl);
      of_dest = faulted-keeps-dest job v d g s.dest (is_dest_of s x.running);
      source_layout = ap (λ (told : Told). told.shape) made.told;
      dest_layout = refl;
      contents = λ both. joined-contents t c refl refl (x.steps.failed_bytes c refl (has_source_bytes s both)).part (has_dest_bytes s both).part ∙ sym kept;
      read = [];
      behind = sym (append-nil s.reads);
      more_read = read-after s d HasFaulted w x.running x.first (one-write s d Faulted new op w x (release_goes job v d true goes).some_queue);
      calls = release-calls s t d true op x.next x.writes (calls-source s.source.shape op op.write true s t made refl refl refl);
    })

-- The write at the front of a queue, however it was answered.
pub release-at-source : (s : State) (d : ℕ) (a : Turn) (new : Source) (op : UnitOp) (w : Waiting) → AtRelease s d a new op w → Happened s (Release d) a (at_release s d a new w)
release-at-source s d (Done n) new op w x = release-done s d n new op w x
release-at-source s d Queued new op w x =
    let no : false ≡ true = ap is_ending x.steps.answers ∙ ends-so (wait (job_of s.job) (view s) (Release d) false) false (job_of s.job) (view s) d in
    absurd (cc)
release-at-source s d Faulted new op w x = release-faulted s d new op w x
release-at-source s d (Waits why) new op w x = let no : true ≡ false = x.goes_on in absurd (cc)
release-at-source s d (Broke cause) new op w x =
    let no : false ≡ true = ap is_ending x.steps.answers ∙ ends-so (wait (job_of s.job) (view s) (Release d) true) true (job_of s.job) (view s) d in
    absurd (cc)

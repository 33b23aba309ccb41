-- A migration is given up where that is due: every region goes, and nothing else but the phase.
use Rattle.std.specs.Prelude.{◌≡◌, ◌≤◌, ◌<◌, ℕ, ◌+◌, not, Bool, true, false, List, ◌++◌, length, Option, None}
use Rattle.std.proofs.Common.{arith, refl, ap, sym, subst, ◌∙◌}
use Rattle.std.proofs.lemmas.Bool.{and_from}
use Rattle.xv_base.specs.declared.event.Event.TheVariants.{Cancel}
use Rattle.xv_base.specs.declared.event.Phase.TheVariants.{Cancelled}
use Rattle.xv_base.specs.declared.answer.Why.TheVariants.{NotNow}
use Rattle.xv_device.specs.Told.{Told}
use Rattle.xv_model.specs.Guest.{Ended}
use Rattle.xv_model.specs.View.{is_live}
use Rattle.xv_model.specs.Wait.{Why, wait, unless, reaches, cancel_due}
use Rattle.xv_model.specs.Effect.{note}
use Rattle.xv_model.specs.Step.{Entry, turn_by, view_by, entry_of, is_wait}
use Rattle.xv_model.specs.Contents.{contents_by}
use Rattle.xv_model.specs.Work.{bound}
use Rattle.xv_job.specs.Written.{job_of}
use Rattle.xv_source.specs.Half.{Source, IsSourceOf, HasSourceBytes}
use Rattle.xv_core.specs.Seen.{Seen}
use Rattle.xv_core.specs.State.{State, view, seen_of, contents_of, IsRunning}
use Rattle.xv_core.specs.Kept.{IsState}
use Rattle.xv_core.specs.Stepped.{IsStep}
use Rattle.xv_core.specs.Happening.{Happened}
use Rattle.xv_core.specs.Settling.{Abandoned}
use Rattle.xv_core.proofs.Keeping.Joined.{is_source_of, has_source_bytes, shows}
use Rattle.xv_core.proofs.Keeping.Counts.{journal-has-room}
use Rattle.xv_core.proofs.CopyingEvents.SourceAlone.{RestStays, BytesStay, IsAfter, with_half, happens}
use Rattle.xv_core.proofs.Stepped.Stays.{stays}
use Rattle.xv_core.proofs.Stepped.Steps.{seen-steps}

-- the cancel is due, as the fields say it
due : (s : State) (at : ℕ) → IsRunning s → at ≡ length s.history → true ≡ reaches (job_of s.job).config.cancel at → true ≡ is_live s.phase → wait (job_of s.job) (view s) Cancel false ≡ None
due s at r is come live =
    let is_come : reaches (job_of s.job).config.cancel (length (view s).history) ≡ true = ap (λ (h : List Ended). reaches (job_of s.job).config.cancel (length h)) (shows s r).history ∙ ap (reaches (job_of s.job).config.cancel) (sym is) ∙ sym come in
    let is_due : cancel_due (job_of s.job) (view s) ≡ true = and_from (reaches (job_of s.job).config.cancel (length (view s).history)) (is_live (view s).phase) is_come (ap is_live (shows s r).phase ∙ sym live) in
    ap (λ (b : Bool). unless (not b) NotNow None) is_due

-- the half that gave all up is the source's part of what the machine makes
gone-after : (s : State) (gone : Source) → IsRunning s → wait (job_of s.job) (view s) Cancel false ≡ None → Abandoned s.source gone → IsAfter s Cancel (note 0 0) gone Cancelled s.stun
gone-after s gone r goes given =
    let job = job_of s.job in
    let v = view s in
    record {
      rest = subst (λ (w : Option Why). RestStays v (view_by w false job v Cancel) Cancelled s.stun) (sym goes) (record {
        history = refl;
        stun = (shows s r).stun;
        phase = refl;
        streams = refl;
        hold = refl;
        freed = refl;
        acks = refl;
      });
      bytes = subst (λ (w : Option Why). BytesStay (contents_of s) (contents_by w false job v Cancel (contents_of s))) (sym goes) (record { dest = refl; streams = refl; held = refl; reads = refl });
      part = subst (λ (w : Option Why). IsSourceOf job (view_by w false job v Cancel) gone) (sym goes) (given.part job v Cancelled (is_source_of s r));
      has = λ both. subst (λ (w : Option Why). HasSourceBytes (contents_by w false job v Cancel (contents_of s)) gone) (sym goes) (given.bytes (contents_of s) (has_source_bytes s both));
      layout = ap (λ (told : Told). told.shape) given.call.told;
      calls = record {
        source = ap (λ (told : Told). record { told = told; faults = gone.faults }) given.call.told ∙ ap (λ (n : ℕ). record { told = s.source.told; faults = n }) given.call.faults;
        dest = refl;
        streams = refl;
        back = refl;
      };
    }

-- what is made of the state: one entry more, the phase, and the half without its regions
pub record CancelledBy (s t : State) : Type 0 where
  pub rest : t ≡ record s { journal = t.journal; phase = Cancelled; source = t.source }
  pub journal : t.journal ≡ s.journal ++ entry_of Cancel (note 0 0)
  pub gone : Abandoned s.source t.source

cancels : (s t : State) (at : ℕ) → IsState s → at ≡ length s.history → true ≡ reaches (job_of s.job).config.cancel at → true ≡ is_live s.phase → CancelledBy s t → Happened s Cancel (note 0 0) t
cancels s t at k is come live by =
    let goes = due s at k.running is come live in
    let whole : with_half s Cancel (note 0 0) t.source Cancelled s.stun ≡ t = ap (λ (es : List Entry). record s { journal = es; phase = Cancelled; source = t.source }) (sym by.journal) ∙ sym by.rest in
    subst (Happened s Cancel (note 0 0)) whole
    (happens s Cancel (note 0 0) t.source Cancelled s.stun k.running k.carried refl refl (ap (λ (w : Option Why). turn_by w false (job_of s.job) (view s) Cancel) (sym goes)) (gone-after s t.source k.running goes by.gone))

pub stays-cancelled : (s t : State) (at : ℕ) → IsState s → at ≡ length s.history → true ≡ reaches (job_of s.job).config.cancel at → true ≡ is_live s.phase → CancelledBy s t → IsState t
stays-cancelled s t at k is come live by = stays s t Cancel (note 0 0) k (cancels s t at k is come live by)

pub steps-cancelled : (s t : State) (m : Seen) (at : ℕ) → IsState s → seen_of s ≡ m → at ≡ length s.history → true ≡ reaches (job_of s.job).config.cancel at → true ≡ is_live s.phase → CancelledBy s t → IsStep m Cancel (note 0 0) (seen_of t)
steps-cancelled s t m at k sees is come live by =
    subst (λ (x : Seen). IsStep x Cancel (note 0 0) (seen_of t)) sees (seen-steps s t Cancel (note 0 0) k (cancels s t at k is come live by))

-- there was room for its entry
pub room-to-cancel : (s : State) (at capacity : ℕ) → IsState s → at ≡ length s.history → true ≡ reaches (job_of s.job).config.cancel at → true ≡ is_live s.phase → capacity ≡ bound (job_of s.job) → length s.journal < capacity
room-to-cancel s at capacity k is come live room =
    let goes = due s at k.running is come live in
    let there : length s.journal + 1 ≤ bound (job_of s.job) = journal-has-room s Cancel false k.running refl (ap (λ (w : Option Why). is_wait (turn_by w false (job_of s.job) (view s) Cancel)) goes) in
    omega arith

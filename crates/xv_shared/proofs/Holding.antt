-- What the value of the lock keeps over a step.
use Rattle.std.proofs.Common.{◌≡◌, ℕ, ◌+◌, ◌<◌, ◌≤◌, ◌^◌, not, Bool, true, false, List, ◌++◌, length, refl, sym, ap, subst, ◌∙◌, arith, length-append}
use Rattle.std.proofs.lemmas.Bool.{lt-ltb}
use Rattle.atomic_table.specs.Seated.{TableId}
use Rattle.xv_base.specs.declared.event.Event.TheVariants.{Guest}
use Rattle.xv_base.specs.declared.unit.GuestId.{GuestId}
use Rattle.xv_progress.specs.Passes.{Known}
use Rattle.xv_base.specs.declared.limits.TheConstants.{MOST_PATTERN}
use Rattle.xv_model.specs.Job.{guest_count}
use Rattle.xv_model.specs.Wait.{Event, fits}
use Rattle.xv_model.specs.Effect.{Turn}
use Rattle.xv_model.specs.Step.{Entry, is_wait, entry_of}
use Rattle.xv_model.specs.Growth.{happened, is_queued, is_fault}
use Rattle.xv_model.specs.Journal.{is_guest, guest_entries, other_entries}
use Rattle.xv_job.specs.Written.{job_of}
use Rattle.xv_core.specs.Seen.{Seen}
use Rattle.xv_core.specs.Stepped.{IsStep}
use Rattle.xv_core.specs.Keeping.{IsKept}
use Rattle.xv_core.specs.Origin.{HasOrigin}
use Rattle.xv_core.proofs.Stepped.Origins.{origin-then, journal-small}
use Rattle.xv_shared.specs.Tallies.{once}
use Rattle.xv_shared.specs.Turns.{told}
use Rattle.xv_shared.specs.Held.{ByKind, by_kind, entries, numbers_of, IsHeld}
use Rattle.xv_shared.proofs.Entries.{guest-entry, guest-no_other, other-no_guest, other-entry, told-done, told-queued, told-fault, guests-within, others-within}

-- each book stands below 2^32
pub record AreFew (k : ByKind) : Type 0 where
  pub done_few : k.done < 2 ^ 32
  pub queued_few : k.queued < 2 ^ 32
  pub faulted_few : k.faulted < 2 ^ 32
  pub other_few : k.other < 2 ^ 32

few-entries : (m : Seen) → IsKept m → AreFew (entries m.journal)
few-entries m k = record {
  done_few = omega (arith, journal-small m k, guests-within happened m.journal);
  queued_few = omega (arith, journal-small m k, guests-within is_queued m.journal);
  faulted_few = omega (arith, journal-small m k, guests-within is_fault m.journal);
  other_few = omega (arith, journal-small m k, others-within m.journal);
}

pub few-totals : (origin m : Seen) (totals parts : ByKind) (p : Known) (w : TableId) → IsHeld origin m totals parts p w → IsKept m → AreFew totals
few-totals origin m totals parts p w h k = rw h.counted (few-entries m k)

-- the books after an answer to a guest, and to another worker
pub record CountsGuest (old new : ByKind) (a : Turn) : Type 0 where
  pub done : new.done ≡ old.done + once (happened a)
  pub queued : new.queued ≡ old.queued + once (is_queued a)
  pub faulted : new.faulted ≡ old.faulted + once (is_fault a)
  pub other : new.other ≡ old.other

pub record CountsOther (old new : ByKind) (a : Turn) : Type 0 where
  pub done : new.done ≡ old.done
  pub queued : new.queued ≡ old.queued
  pub faulted : new.faulted ≡ old.faulted
  pub other : new.other ≡ old.other + once (not (is_wait a))

pub same-four : (x y : ByKind) → x.done ≡ y.done → x.queued ≡ y.queued → x.faulted ≡ y.faulted → x.other ≡ y.other → x ≡ y
same-four x y p q r s = λ i. record { done = p i; queued = q i; faulted = r i; other = s i }

guest-counted : (j k : List Entry) (g : GuestId) (a : Turn) (old new : ByKind) → k ≡ j ++ entry_of (Guest g) a → old ≡ entries j → CountsGuest old new (told a) → new ≡ entries k
guest-counted j k g a old new grown is c =
    same-four new (entries k)
    (c.done ∙ ((λ i. (is i).done + once (told-done a i)) ∙ (sym (guest-entry happened j g a (λ why. refl)) ∙ ap (guest_entries happened) (sym grown))))
    (c.queued ∙ ((λ i. (is i).queued + once (told-queued a i)) ∙ (sym (guest-entry is_queued j g a (λ why. refl)) ∙ ap (guest_entries is_queued) (sym grown))))
    (c.faulted ∙ ((λ i. (is i).faulted + once (told-fault a i)) ∙ (sym (guest-entry is_fault j g a (λ why. refl)) ∙ ap (guest_entries is_fault) (sym grown))))
    (c.other ∙ ((λ i. (is i).other) ∙ (sym (guest-no_other j g a) ∙ ap other_entries (sym grown))))

other-counted : (j k : List Entry) (e : Event) (a : Turn) (old new : ByKind) → is_guest e ≡ false → k ≡ j ++ entry_of e a → old ≡ entries j → CountsOther old new a → new ≡ entries k
other-counted j k e a old new o grown is c =
    same-four new (entries k)
    (c.done ∙ ((λ i. (is i).done) ∙ (sym (other-no_guest happened j e a o) ∙ ap (guest_entries happened) (sym grown))))
    (c.queued ∙ ((λ i. (is i).queued) ∙ (sym (other-no_guest is_queued j e a o) ∙ ap (guest_entries is_queued) (sym grown))))
    (c.faulted ∙ ((λ i. (is i).faulted) ∙ (sym (other-no_guest is_fault j e a o) ∙ ap (guest_entries is_fault) (sym grown))))
    (c.other ∙ ((λ i. (is i).other + once (not (is_wait a))) ∙ (sym (other-entry j e a o) ∙ ap other_entries (sym grown))))

pub held-guest : (origin m n : Seen) (g : GuestId) (a t : Turn) (totals later parts : ByKind) (p q : Known) (w : TableId) → IsHeld origin m totals parts p w → IsStep m (Guest g) a n → t ≡ told a → CountsGuest totals later t → q ≡ record { belongs = p.belongs; numbers = numbers_of n } → IsHeld origin n later parts q w
held-guest origin m n g a t totals later parts p q w h s is c pub_is = record {
  came = origin-then origin m n (Guest g) a h.came s;
  counted = guest-counted m.journal n.journal g a totals later s.journal h.counted (subst (λ (x : Turn). CountsGuest totals later x) is c);
  spare = h.spare;
  own = ap (λ (k : Known). k.belongs) pub_is ∙ h.own;
  last = ap (λ (k : Known). k.numbers) pub_is;
}

pub held-other : (origin m n : Seen) (e : Event) (a : Turn) (totals later parts : ByKind) (p q : Known) (w : TableId) → is_guest e ≡ false → IsHeld origin m totals parts p w → IsStep m e a n → CountsOther totals later a → q ≡ record { belongs = p.belongs; numbers = numbers_of n } → IsHeld origin n later parts q w
held-other origin m n e a totals later parts p q w o h s c pub_is = record {
  came = origin-then origin m n e a h.came s;
  counted = other-counted m.journal n.journal e a totals later o s.journal h.counted c;
  spare = h.spare;
  own = ap (λ (k : Known). k.belongs) pub_is ∙ h.own;
  last = ap (λ (k : Known). k.numbers) pub_is;
}

-- an event fits the job of the migration where it fits that of the origin
pub fits-held : (origin m : Seen) (e : Event) → HasOrigin origin m → fits (job_of origin.job) e ≡ true → fits (job_of m.job) e ≡ true
fits-held origin m e h f = rw h.rises.same_job f

pub fits-guest : (origin m : Seen) (g : GuestId) → HasOrigin origin m → g.0 < guest_count (job_of origin.job) → fits (job_of m.job) (Guest g) ≡ true
fits-guest origin m g h l = fits-held origin m (Guest g) h (lt-ltb g.0 (guest_count (job_of origin.job)) l)

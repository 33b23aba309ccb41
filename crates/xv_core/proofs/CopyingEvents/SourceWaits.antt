-- What the events of the copy wait for, from what the phase, the job and the source's half say.
use Rattle.std.specs.Prelude.{◌≡◌, ℕ, ◌==◌, ◌&&◌, not, nat_lt, Bool, true, false, length, Option, Some, None}
use Rattle.std.proofs.Common.{refl, ap, sym, subst, ◌∙◌}
use Rattle.std.proofs.lemmas.Bool.{ltb-true, lt-ltb, and_from}
use Rattle.xv_base.specs.declared.event.Event.TheVariants.{Guest, Begin, Read, Advance, Release, Round, Page, Send, Deliver, Apply, Ack, Credit, Stun, Switch, Cancel}
use Rattle.xv_base.specs.declared.answer.Turn.TheVariants.{Wait as Waits}
use Rattle.xv_base.specs.declared.answer.Why.TheVariants.{CancelDue, NotNow}
use Rattle.xv_model.specs.Job.{Job}
use Rattle.xv_model.specs.View.{View, Phase, is_running, is_live}
use Rattle.xv_model.specs.Wait.{Event, Why, wait, unless, fits, is_before, reaches, cancel_due}
use Rattle.xv_job.specs.Written.{job_of}
use Rattle.xv_source.specs.Half.{Source}
use Rattle.xv_source.specs.Step.{Allows, is_let, is_of_source}
use Rattle.xv_source.specs.Waits.{is_asked}
use Rattle.xv_core.specs.Seen.{Seen, view_of}
use Rattle.xv_core.specs.State.{State, view, seen_of, IsRunning}
use Rattle.xv_core.specs.Kept.{IsState}
use Rattle.xv_core.specs.Stepped.{IsStep}
use Rattle.xv_core.specs.Copying.{is_of_copy}
use Rattle.xv_core.proofs.Keeping.Calls.{disk-there}
use Rattle.xv_core.proofs.Keeping.Joined.{is_source_of, shows}
use Rattle.xv_core.proofs.CopyingEvents.SourceEvents.{history-length}
use Rattle.xv_core.proofs.Stepped.Steps.{wait-seen}
use Rattle.xv_core.proofs.Stepped.Waits.{waited-none}

-- out of the phase that an event asks for
not-asked : (job : Job) (v : View) (e : Event) → is_of_copy e ≡ true → is_asked v.phase e ≡ false → wait job v e false ≡ Some NotNow
not-asked job v (Begin d) of off = rw off refl
not-asked job v (Read d) of off = rw off refl
not-asked job v (Advance d) of off = rw off refl
not-asked job v Round of off = rw off refl
not-asked job v Page of off = rw off refl
not-asked job v (Guest g) of off = absurd (cc)
not-asked job v (Release d) of off = absurd (cc)
not-asked job v (Send s) of off = absurd (cc)
not-asked job v (Deliver s) of off = absurd (cc)
not-asked job v Apply of off = absurd (cc)
not-asked job v Ack of off = absurd (cc)
not-asked job v Credit of off = absurd (cc)
not-asked job v Stun of off = absurd (cc)
not-asked job v Switch of off = absurd (cc)
not-asked job v Cancel of off = absurd (cc)

asked-phase : (s : State) (e : Event) (b : Bool) → IsRunning s → b ≡ is_asked s.phase e → is_asked (view s).phase e ≡ b
asked-phase s e b r asked = ap (λ (p : Phase). is_asked p e) (shows s r).phase ∙ sym asked

pub copy-not-now : (s : State) (e : Event) → IsState s → is_of_copy e ≡ true → false ≡ is_asked s.phase e → wait (job_of s.job) (view s) e false ≡ Some NotNow
copy-not-now s e k of off = not-asked (job_of s.job) (view s) e of (asked-phase s e false k.running off)

-- the stun, and the cancel
stun-phase : (job : Job) (v : View) → is_running v.phase ≡ false → wait job v Stun false ≡ Some NotNow
stun-phase job v off = rw off refl

stun-early : (job : Job) (v : View) → is_running v.phase ≡ true → is_before job.config.cancel (length v.history) ≡ true → wait job v Stun false ≡ Some CancelDue
stun-early job v running early = rw (running, early) refl

cancel-not-due : (job : Job) (v : View) → cancel_due job v ≡ false → wait job v Cancel false ≡ Some NotNow
cancel-not-due job v off = ap (λ (b : Bool). unless (not b) NotNow None) off

not-both : (b c : Bool) → c ≡ false → (b && c) ≡ false
not-both true c e = e
not-both false c e = refl

pub stun-not-now : (s : State) → IsState s → false ≡ is_running s.phase → wait (job_of s.job) (view s) Stun false ≡ Some NotNow
stun-not-now s k off = stun-phase (job_of s.job) (view s) (ap is_running (shows s k.running).phase ∙ sym off)

before-at : (s : State) (at : ℕ) (b : Bool) → IsRunning s → at ≡ length s.history → b ≡ is_before (job_of s.job).config.cancel at → is_before (job_of s.job).config.cancel (length (view s).history) ≡ b
before-at s at b r is before = ap (is_before (job_of s.job).config.cancel) (history-length s r ∙ sym is) ∙ sym before

reaches-at : (s : State) (at : ℕ) (b : Bool) → IsRunning s → at ≡ length s.history → b ≡ reaches (job_of s.job).config.cancel at → reaches (job_of s.job).config.cancel (length (view s).history) ≡ b
reaches-at s at b r is there = ap (reaches (job_of s.job).config.cancel) (history-length s r ∙ sym is) ∙ sym there

pub stun-too-early : (s : State) (at : ℕ) → IsState s → true ≡ is_running s.phase → at ≡ length s.history → true ≡ is_before (job_of s.job).config.cancel at → wait (job_of s.job) (view s) Stun false ≡ Some CancelDue
stun-too-early s at k running is early = stun-early (job_of s.job) (view s) (ap is_running (shows s k.running).phase ∙ sym running) (before-at s at true k.running is early)

pub cancel-not-come : (s : State) (at : ℕ) → IsState s → at ≡ length s.history → false ≡ reaches (job_of s.job).config.cancel at → wait (job_of s.job) (view s) Cancel false ≡ Some NotNow
cancel-not-come s at k is off = cancel-not-due (job_of s.job) (view s) (ap (λ (b : Bool). b && is_live (view s).phase) (reaches-at s at false k.running is off))

pub cancel-not-live : (s : State) → IsState s → false ≡ is_live s.phase → wait (job_of s.job) (view s) Cancel false ≡ Some NotNow
cancel-not-live s k off =
    cancel-not-due (job_of s.job) (view s) (not-both (reaches (job_of s.job).config.cancel (length (view s).history)) (is_live (view s).phase) (ap is_live (shows s k.running).phase ∙ sym off))

-- such a wait is a step that changes nothing
pub waits-as : (s : State) (m : Seen) (e : Event) (why : Why) → seen_of s ≡ m → wait (job_of s.job) (view s) e false ≡ Some why → IsStep m e (Waits why) m
waits-as s m e why sees is = subst (λ (x : Seen). IsStep x e (Waits why) x) sees (wait-seen s s e why is (waited-none s))

-- What the half says of the events that it judges.
lets-copy : (job : Job) (v : View) (e : Event) → is_of_copy e ≡ true → is_asked v.phase e ≡ true → is_let job v e ≡ true
lets-copy job v (Begin d) of asked = asked
lets-copy job v (Read d) of asked = asked
lets-copy job v (Advance d) of asked = asked
lets-copy job v Round of asked = asked
lets-copy job v Page of asked = asked
lets-copy job v (Guest g) of asked = absurd (cc)
lets-copy job v (Release d) of asked = absurd (cc)
lets-copy job v (Send s) of asked = absurd (cc)
lets-copy job v (Deliver s) of asked = absurd (cc)
lets-copy job v Apply of asked = absurd (cc)
lets-copy job v Ack of asked = absurd (cc)
lets-copy job v Credit of asked = absurd (cc)
lets-copy job v Stun of asked = absurd (cc)
lets-copy job v Switch of asked = absurd (cc)
lets-copy job v Cancel of asked = absurd (cc)

pub copy-of-source : (s : State) (m : Seen) (e : Event) → IsState s → seen_of s ≡ m → is_of_copy e ≡ true → fits (job_of m.job) e ≡ true → is_of_source (length s.source.disks) e ≡ true
copy-of-source s m e k sees of fit = within s e k of (subst (λ (x : Seen). fits (job_of x.job) e ≡ true) (sym sees) fit)
  where
    there : (s : State) (d : ℕ) → IsState s → nat_lt d (length (job_of s.job).shape.disks) ≡ true → nat_lt d (length s.source.disks) ≡ true
    there s d k fit = lt-ltb d (length s.source.disks) (disk-there s d k.running (ltb-true d (length (job_of s.job).shape.disks) fit))

    within : (s : State) (e : Event) → IsState s → is_of_copy e ≡ true → fits (job_of s.job) e ≡ true → is_of_source (length s.source.disks) e ≡ true
    within s (Begin d) k of fit = there s d k fit
    within s (Read d) k of fit = there s d k fit
    within s (Advance d) k of fit = there s d k fit
    within s Round k of fit = refl
    within s Page k of fit = refl
    within s (Guest g) k of fit = absurd (cc)
    within s (Release d) k of fit = absurd (cc)
    within s (Send n) k of fit = absurd (cc)
    within s (Deliver n) k of fit = absurd (cc)
    within s Apply k of fit = absurd (cc)
    within s Ack k of fit = absurd (cc)
    within s Credit k of fit = absurd (cc)
    within s Stun k of fit = absurd (cc)
    within s Switch k of fit = absurd (cc)
    within s Cancel k of fit = absurd (cc)

-- the wait of a call of the half, once it is let
abbrev pub Judges : Source → Event → Bool → Option Why → Type 0
Judges h e beside answered = (job : Job) (v : View) → Allows job v e h → is_asked v.phase e ≡ true → beside ≡ (job.format == 2) → answered ≡ wait job v e false

pub copy-waits : (s : State) (m : Seen) (e : Event) (beside : Bool) (answered : Option Why) → IsState s → seen_of s ≡ m → is_of_copy e ≡ true → true ≡ is_asked s.phase e → beside ≡ ((job_of s.job).format == 2) →
    Judges s.source e beside answered → answered ≡ wait (job_of m.job) (view_of m) e false
copy-waits s m e beside answered k sees of asked format judges =
    let r = k.running in
    let is = asked-phase s e true r asked in
    let own : answered ≡ wait (job_of s.job) (view s) e false = judges (job_of s.job) (view s) (record { of = is_source_of s r; lets = lets-copy (job_of s.job) (view s) e of is }) is format in
    subst (λ (x : Seen). answered ≡ wait (job_of x.job) (view_of x) e false) sees own

pub stun-waits : (s : State) (m : Seen) (at : ℕ) (beside : Bool) (answered : Option Why) → IsState s → seen_of s ≡ m → true ≡ is_running s.phase → at ≡ length s.history → false ≡ is_before (job_of s.job).config.cancel at →
    beside ≡ ((job_of s.job).format == 2) → Judges s.source Stun beside answered → answered ≡ wait (job_of m.job) (view_of m) Stun false
stun-waits s m at beside answered k sees running is late format judges =
    let r = k.running in
    let runs : is_running (view s).phase ≡ true = ap is_running (shows s r).phase ∙ sym running in
    let not_early : not (is_before (job_of s.job).config.cancel (length (view s).history)) ≡ true = ap not (before-at s at false r is late) in
    let own : answered ≡ wait (job_of s.job) (view s) Stun false =
    judges (job_of s.job) (view s) (record { of = is_source_of s r; lets = and_from (is_running (view s).phase) (not (is_before (job_of s.job).config.cancel (length (view s).history))) runs not_early }) runs format in
    subst (λ (x : Seen). answered ≡ wait (job_of x.job) (view_of x) Stun false) sees own

-- a wait as contracts see it
pub seen-waits : (s : State) (m : Seen) (e : Event) (answered : Option Why) → seen_of s ≡ m → wait (job_of s.job) (view s) e false ≡ answered → answered ≡ wait (job_of m.job) (view_of m) e false
seen-waits s m e answered sees is = subst (λ (x : Seen). answered ≡ wait (job_of x.job) (view_of x) e false) sees (sym is)

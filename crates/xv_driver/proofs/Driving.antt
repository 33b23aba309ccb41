-- The driver's steps, one after another: what each leaves, and what all of them do.
use Rattle.std.specs.Prelude.{◌≡◌, ◌≤◌, ◌<◌, ℕ, zero, suc, ◌+◌, ◌-◌, Bool, true, false, List, [], ◌∷◌, ◌++◌, length, Some, None, if◌then◌else◌}
use Rattle.std.proofs.Common.{arith, refl, sym, ap, subst, ◌∙◌, append_assoc, append-nil, length-append, add-one, take}
use Rattle.std.proofs.Math.Seq.{take-append_seam}
use Rattle.xv_model.specs.Wait.{Event, wait, fits}
use Rattle.xv_model.specs.Effect.{Turn}
use Rattle.xv_model.specs.Step.{Entry, turn, is_flagged, is_wait, entry_of}
use Rattle.xv_model.specs.Driver.{next_event}
use Rattle.xv_model.specs.Work.{bound}
use Rattle.xv_model.proofs.Bound.Runs.{step-lowers, run-within}
use Rattle.xv_job.specs.Written.{Written, job_of}
use Rattle.xv_core.specs.Seen.{Seen, view_of}
use Rattle.xv_core.specs.Stepped.{IsStep}
use Rattle.xv_core.specs.Origin.{HasOrigin}
use Rattle.xv_core.specs.Keeping.{IsKept}
use Rattle.xv_core.proofs.Stepped.Origins.{origin-same, origin-step, origin-over}
use Rattle.xv_driver.specs.Driven.{IsDrivenStep, AreDriven}
use Rattle.xv_driver.proofs.Goes.{goes-on}

-- the entry that a step enters
abbrev pub entry : Event → Turn → Entry
entry e a = record { event = e; turn = a }

entry-of : (e : Event) (a : Turn) → is_wait a ≡ false → entry_of e a ≡ entry e a ∷ []
entry-of e a h = ap (λ (b : Bool). if b then [] else entry e a ∷ []) h

entered : (m n : Seen) (e : Event) (a : Turn) → IsStep m e a n → is_wait a ≡ false → n.journal ≡ m.journal ++ entry e a ∷ []
entered m n e a s goes = s.journal ∙ ap (λ (es : List Entry). m.journal ++ es) (entry-of e a goes)

pub step-journal : (m n : Seen) (d : IsDrivenStep m n) → n.journal ≡ m.journal ++ entry d.event d.answer ∷ []
step-journal m n d = entered m n d.event d.answer d.stepped d.goes_on

-- what a step by an event that goes on leaves: one entry more, within the bound
pub step-grows : (m n : Seen) (e : Event) (a : Turn) → wait (job_of m.job) (view_of m) e false ≡ None → IsStep m e a n → length n.journal ≡ length m.journal + 1
step-grows m n e a acts s =
    ap (λ (es : List Entry). length es) (entered m n e a s (goes-on (job_of m.job) (view_of m) e a acts s.answers)) ∙ length-append m.journal (entry e a ∷ [])

pub step-nears : (m n : Seen) (e : Event) (a : Turn) → IsKept m → fits (job_of m.job) e ≡ true → wait (job_of m.job) (view_of m) e false ≡ None → IsStep m e a n → bound (job_of n.job) - length n.journal < bound (job_of m.job) - length m.journal
step-nears m n e a k fit acts s =
    let job = job_of m.job in
    let goes : is_wait (turn job (view_of m) e (is_flagged a)) ≡ false = ap is_wait (sym s.answers) ∙ goes-on job (view_of m) e a acts s.answers in
    let same : bound (job_of n.job) ≡ bound job = ap (λ (w : Written). bound (job_of w)) s.job in
    let less = step-lowers job (view_of m) e (is_flagged a) k.good fit k.view goes in
    let room : length m.journal + 1 ≤ bound job = omega (arith, run-within job m.journal k.good k.fitting k.is_run, less) in
    apart (bound (job_of n.job)) (bound job) (length n.journal) (length m.journal) same (step-grows m n e a acts s) room
  where
    apart : (b c j i : ℕ) → b ≡ c → j ≡ i + 1 → i + 1 ≤ c → b - j < c - i
    apart b c j i same grew room = omega arith

-- a step by the driver's next event is a step of the driver
pub step-driven : (m n : Seen) (e : Event) (a : Turn) → Some e ≡ next_event (job_of m.job) (view_of m) (length m.journal) → fits (job_of m.job) e ≡ true → wait (job_of m.job) (view_of m) e false ≡ None → IsStep m e a n → IsKept n → IsDrivenStep m n
step-driven m n e a next fit acts s k = record {
  event = e;
  answer = a;
  next = sym next;
  fitting = fit;
  stepped = s;
  goes_on = goes-on (job_of m.job) (view_of m) e a acts s.answers;
  kept = k;
}

-- one step more
driven-then : (k : ℕ) (l m n : Seen) → AreDriven k l m → IsDrivenStep m n → AreDriven (suc k) l n
driven-then zero l m n h d = (n, (subst (λ (s : Seen). IsDrivenStep s n) h d, refl))
driven-then (suc k) l m n h d = (h.0, (h.1.0, driven-then k h.0 m n h.1.1 d))

pub driven-more : (k : ℕ) (l m n : Seen) → AreDriven k l m → IsDrivenStep m n → AreDriven (k + 1) l n
driven-more k l m n h d = subst (λ (j : ℕ). AreDriven j l n) (sym (add-one k)) (driven-then k l m n h d)

-- the job stays, and the journal has a step's entry more for each
pub driven-job : (k : ℕ) (m n : Seen) → AreDriven k m n → n.job ≡ m.job
driven-job zero m n h = ap (λ (s : Seen). s.job) h
driven-job (suc k) m n h = driven-job k h.0 n h.1.1 ∙ h.1.0.stepped.job

pub driven-grew : (k : ℕ) (m n : Seen) → AreDriven k m n → length n.journal ≡ length m.journal + k
driven-grew zero m n h = ap (λ (s : Seen). length s.journal) h ∙ (omega arith)
driven-grew (suc k) m n h =
    let d = h.1.0 in
    let one : length h.0.journal ≡ length m.journal + 1 = ap (λ (es : List Entry). length es) (step-journal m h.0 d) ∙ length-append m.journal (entry d.event d.answer ∷ []) in
    omega (arith, one, driven-grew k h.0 n h.1.1)

pub driven-journal : (k : ℕ) (m n : Seen) → AreDriven k m n → (more : List Entry) × (n.journal ≡ m.journal ++ more)
driven-journal zero m n h = ([], ap (λ (s : Seen). s.journal) h ∙ sym (append-nil m.journal))
driven-journal (suc k) m n h =
    let d = h.1.0 in
    let later = driven-journal k h.0 n h.1.1 in
    (entry d.event d.answer ∷ later.0, later.1 ∙ ap (λ (es : List Entry). es ++ later.0) (step-journal m h.0 d) ∙ append_assoc m.journal (entry d.event d.answer ∷ []) later.0)

pub driven-before : (k : ℕ) (m n : Seen) → AreDriven k m n → take (length m.journal) n.journal ≡ m.journal
driven-before k m n h =
    let later = driven-journal k m n h in
    ap (λ (es : List Entry). take (length m.journal) es) later.1 ∙ take-append_seam m.journal later.0

-- a driven migration comes from the one that was driven
pub driven-origin : (k : ℕ) (m n : Seen) → AreDriven k m n → HasOrigin m n
driven-origin zero m n h = subst (HasOrigin m) (sym h) (origin-same m)
driven-origin (suc k) m n h = origin-over m h.0 n (origin-step m h.0 h.1.0.event h.1.0.answer h.1.0.stepped) (driven-origin k h.0 n h.1.1)

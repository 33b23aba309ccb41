-- How the numbers of progress grow in one step of a migration.
use Rattle.std.proofs.Common.{◌≡◌, ℕ, ◌+◌, ◌-◌, ◌<◌, ◌≤◌, ◌^◌, not, Bool, true, false, length, List, [], ◌∷◌, ◌++◌, sum, sum_by, map, replicate, refl, sym, ap, subst, ◌∙◌, arith, length-append}
use Rattle.std.proofs.lemmas.List.Folds.{sum_by-replicate}
use Rattle.std.proofs.lemmas.List.Sums.{sum_by-cons}
use Rattle.xv_base.specs.Units.{Shape}
use Rattle.xv_base.specs.declared.unit.DiskShape.{DiskShape}
use Rattle.xv_base.specs.declared.event.Event.TheVariants.{Guest, Begin, Read, Advance, Release, Round, Page, Send, Deliver, Apply, Ack, Credit, Stun, Switch, Cancel}
use Rattle.xv_base.specs.declared.answer.Turn.TheVariants.{Done, Queued, Faulted, Wait, Failed}
use Rattle.xv_progress.specs.declared.numbers.Numbers.{Numbers}
use Rattle.xv_progress.specs.Numbers.{IsFit, IsNotBelow, rest, no_numbers}
use Rattle.xv_model.specs.Job.{Job, unit_count}
use Rattle.xv_model.specs.View.{View, Disk, no_disk, first_view}
use Rattle.xv_model.specs.Wait.{Event, fits}
use Rattle.xv_model.specs.Effect.{Turn}
use Rattle.xv_model.specs.Step.{Entry, is_wait, is_flagged, entry_of, run}
use Rattle.xv_model.specs.Growth.{copied, applied, ends, applies, blocks_copied}
use Rattle.xv_model.proofs.Growth.Numbers.{history-grows, copied-grows, applied-grows, copied-small, history-small}
use Rattle.xv_model.proofs.Growth.Runs.{run-numbers_within}
use Rattle.xv_job.specs.Written.{job_of}
use Rattle.xv_core.specs.Seen.{Seen, view_of}
use Rattle.xv_core.specs.Stepped.{IsStep}
use Rattle.xv_core.specs.Keeping.{IsKept}
use Rattle.xv_core.proofs.Stepped.After.{view-after}
use Rattle.xv_core.proofs.Stepped.Origins.{journal-small}
use Rattle.xv_shared.specs.Tallies.{once}
use Rattle.xv_shared.specs.Held.{numbers_of}

-- the entry of an answer
pub entry-long : (e : Event) (a : Turn) → length (entry_of e a) ≡ once (not (is_wait a))
entry-long e (Done n) = refl
entry-long e Queued = refl
entry-long e Faulted = refl
entry-long e (Wait why) = refl
entry-long e (Failed cause) = refl

none-within : (n : ℕ) → 0 ≤ n
none-within n = omega arith

-- no entry is one of the history and an apply
pub grows-within : (e : Event) (a : Turn) → ends e a + applies e a ≤ once (not (is_wait a))
grows-within (Guest g) (Done n) = omega arith
grows-within (Guest g) Queued = omega arith
grows-within (Guest g) Faulted = omega arith
grows-within (Guest g) (Wait why) = omega arith
grows-within (Guest g) (Failed cause) = omega arith
grows-within (Release d) (Done n) = omega arith
grows-within (Release d) Queued = omega arith
grows-within (Release d) Faulted = omega arith
grows-within (Release d) (Wait why) = omega arith
grows-within (Release d) (Failed cause) = omega arith
grows-within Apply (Done n) = omega arith
grows-within Apply Queued = omega arith
grows-within Apply Faulted = omega arith
grows-within Apply (Wait why) = omega arith
grows-within Apply (Failed cause) = omega arith
grows-within (Begin d) a = none-within _
grows-within (Read d) a = none-within _
grows-within (Advance d) a = none-within _
grows-within Round a = none-within _
grows-within Page a = none-within _
grows-within (Send s) a = none-within _
grows-within (Deliver s) a = none-within _
grows-within Ack a = none-within _
grows-within Credit a = none-within _
grows-within Stun a = none-within _
grows-within Switch a = none-within _
grows-within Cancel a = none-within _

-- the numbers after a step, by its event and its answer
pub record Grows (m n : Seen) (e : Event) (a : Turn) : Type 0 where
  pub history : length (view_of n).history ≡ length (view_of m).history + ends e a
  pub copied_blocks : copied (view_of n) ≡ copied (view_of m) + blocks_copied e a
  pub written : applied (view_of n) ≡ applied (view_of m) + applies e a
  pub journal : length n.journal ≡ length m.journal + once (not (is_wait a))

pub grows : (m n : Seen) (e : Event) (a : Turn) → IsKept m → fits (job_of m.job) e ≡ true → IsStep m e a n → Grows m n e a
grows m n e a k f s = record {
  history = ap (λ (v : View). length v.history) (view-after m n e a s) ∙ (history-grows (job_of m.job) (view_of m) e (is_flagged a) ∙ ap (λ (t : Turn). length (view_of m).history + ends e t) (sym s.answers));
  copied_blocks = ap copied (view-after m n e a s) ∙ (copied-grows (job_of m.job) (view_of m) e (is_flagged a) f k.view ∙ ap (λ (t : Turn). copied (view_of m) + blocks_copied e t) (sym s.answers));
  written = ap applied (view-after m n e a s) ∙ (applied-grows (job_of m.job) (view_of m) e (is_flagged a) k.view ∙ ap (λ (t : Turn). applied (view_of m) + applies e t) (sym s.answers));
  journal = ap (λ (j : List Entry). length j) s.journal ∙ (length-append m.journal (entry_of e a) ∙ ap (λ (k : ℕ). length m.journal + k) (entry-long e a));
}

-- what a migration's numbers are within
pub record AreSmall (m : Seen) : Type 0 where
  pub history : length (view_of m).history < 2 ^ 32
  pub copied_blocks : copied (view_of m) < 2 ^ 32
  pub journal : length m.journal < 2 ^ 32
  pub within : length (view_of m).history + applied (view_of m) ≤ length m.journal

pub small : (m : Seen) → IsKept m → AreSmall m
small m k = record {
  history = history-small (job_of m.job) (view_of m) k.good k.view;
  copied_blocks = copied-small (job_of m.job) (view_of m) k.good k.view;
  journal = journal-small m k;
  within = run-numbers_within (job_of m.job) m.journal k.good k.fitting k.is_run;
}

pub none-below : (m n : Seen) (e : Event) (a : Turn) → Grows m n e a → IsNotBelow (numbers_of m) (numbers_of n)
none-below m n e a g = record {
  history_rises = omega (arith, g.history);
  copied_rises = omega (arith, g.copied_blocks);
  applied_rises = omega (arith, g.written);
  rest_rises = omega (arith, g.history, g.written, g.journal, grows-within e a);
}

-- numbers that are these four
pub same-numbers : (x y : Numbers) → x.history ≡ y.history → x.copied ≡ y.copied → x.applied ≡ y.applied → x.journal ≡ y.journal → x ≡ y
same-numbers x y h c a j = λ i. record { history = h i; copied = c i; applied = a i; journal = j i }

-- where nothing has happened all are 0
no-cursors : (ds : List DiskShape) → sum_by (λ (d : Disk). d.cursor) (map (λ (_ : DiskShape). no_disk) ds) ≡ 0
no-cursors [] = refl
no-cursors (d ∷ ds) = omega (arith, sum_by-cons (λ (d : Disk). d.cursor) no_disk (map (λ (_ : DiskShape). no_disk) ds), no-cursors ds)

none-applied : (n : ℕ) → sum (replicate n 0) ≡ 0
none-applied n = omega (arith, sum_by-replicate (λ (k : ℕ). k) n 0)

first : (job : Job) (journal : List Entry) → journal ≡ [] → record { history = length (run job journal).history; copied = copied (run job journal); applied = applied (run job journal); journal = length journal } ≡ no_numbers
first job journal none = subst (λ (j : List Entry). record { history = length (run job j).history; copied = copied (run job j); applied = applied (run job j); journal = length j } ≡ no_numbers) (sym none) (same-numbers _ no_numbers refl (no-cursors job.copy.disks) (none-applied (unit_count job)) refl)

pub first-numbers : (m : Seen) → m.journal ≡ [] → numbers_of m ≡ no_numbers
first-numbers m none = first (job_of m.job) m.journal none

-- the numbers that are made from the last ones by an event and its answer are those of the migration after that step
pub stepped-numbers : (m n : Seen) (e : Event) (a : Turn) (last x : Numbers) → IsKept m → fits (job_of m.job) e ≡ true → IsStep m e a n → last ≡ numbers_of m → x.history ≡ last.history + ends e a → x.copied ≡ last.copied + blocks_copied e a → x.applied ≡ last.applied + applies e a → x.journal ≡ last.journal + once (not (is_wait a)) → x ≡ numbers_of n
stepped-numbers m n e a last x k f s l h c p j =
    let g = grows m n e a k f s in
    same-numbers x (numbers_of n)
    (h ∙ (ap (λ (y : Numbers). y.history + ends e a) l ∙ sym g.history))
    (c ∙ (ap (λ (y : Numbers). y.copied + blocks_copied e a) l ∙ sym g.copied_blocks))
    (p ∙ (ap (λ (y : Numbers). y.applied + applies e a) l ∙ sym g.written))
    (j ∙ (ap (λ (y : Numbers). y.journal + once (not (is_wait a))) l ∙ sym g.journal))

-- and may be published behind them
pub record MayFollow (last x : Numbers) : Type 0 where
  pub parts : x.history + x.applied ≤ x.journal
  pub rises : IsNotBelow last x
  pub journal_fits : x.journal < 2 ^ 62
  pub copied_fits : x.copied < 2 ^ 62

pub may-follow : (m n : Seen) (e : Event) (a : Turn) (last x : Numbers) → IsKept m → IsKept n → fits (job_of m.job) e ≡ true → IsStep m e a n → last ≡ numbers_of m → x ≡ numbers_of n → MayFollow last x
may-follow m n e a last x k l f s p q =
    let t = small n l in
    let at : MayFollow (numbers_of m) (numbers_of n) = record { parts = t.within; rises = none-below m n e a (grows m n e a k f s); journal_fits = omega (arith, t.journal); copied_fits = omega (arith, t.copied_blocks) } in
    subst (λ (y : Numbers). MayFollow y x) (sym p) (subst (λ (y : Numbers). MayFollow (numbers_of m) y) (sym q) at)

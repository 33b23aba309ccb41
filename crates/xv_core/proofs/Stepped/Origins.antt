-- A migration comes from itself, from what a step was made of, and from what its origin comes from; and its journal is short.
use Rattle.std.specs.Prelude.{◌≡◌, ◌≤◌, ◌<◌, ◌^◌, ℕ, nat_lt, ◌||◌, Bool, false, List, [], ◌∷◌, ◌++◌, length}
use Rattle.std.proofs.Common.{refl, sym, ap, ◌∙◌, arith, append_assoc, append-nil}
use Rattle.std.proofs.lemmas.Bool.{or_parts, ltb-false, le-ltb}
use Rattle.xv_model.specs.Job.{Job}
use Rattle.xv_model.specs.View.{View, first_view, number, is_switched}
use Rattle.xv_model.specs.Wait.{Event}
use Rattle.xv_model.specs.Effect.{Turn}
use Rattle.xv_model.specs.Step.{Entry, step, after, run, entry_of, is_flagged}
use Rattle.xv_model.specs.Report.{is_written}
use Rattle.xv_model.specs.Work.{bound}
use Rattle.xv_model.proofs.Bound.Runs.{run-within}
use Rattle.xv_model.proofs.Contents.Unwritten.{none-before, not_switched-before}
use Rattle.xv_job.specs.Written.{Written, job_of}
use Rattle.xv_core.specs.Seen.{Seen, view_of}
use Rattle.xv_core.specs.Stepped.{IsStep, TellsOn}
use Rattle.xv_core.specs.Origin.{HasOrigin}
use Rattle.xv_core.specs.Keeping.{IsKept}
use Rattle.xv_core.proofs.Counting.Rises.{rises-refl, rises-over}
use Rattle.xv_core.proofs.Plans.Rise.{takes-rise-refl, takes-rise-over}
use Rattle.xv_core.proofs.Keeping.Counts.{bound-small}

pub origin-same : (m : Seen) → HasOrigin m m
origin-same m = record {
  since = [];
  journal = sym (append-nil m.journal);
  read = [];
  reads = sym (append-nil m.reads);
  rises = rises-refl m;
  takes_rise = takes-rise-refl m;
  unwritten = record { units = λ unit none. refl };
  tells = record { source = refl; dest = refl; source_units = refl; dest_units = refl; wires = refl };
}

pub origin-step : (m n : Seen) (e : Event) (a : Turn) → IsStep m e a n → HasOrigin m n
origin-step m n e a s = record {
  since = entry_of e a;
  journal = s.journal;
  read = s.reads.bytes;
  reads = s.reads.behind;
  rises = s.rises;
  takes_rise = s.takes_rise;
  unwritten = s.unwritten;
  tells = s.tells;
}

-- what is not written after some entries was not before
unwritten-step : (job : Job) (v : View) (e : Event) (flag : Bool) (unit : ℕ) → is_written (step job v e flag) unit ≡ false → is_written v unit ≡ false
unwritten-step job v e flag unit none =
    let w = step job v e flag in
    let parts = or_parts (is_switched w.phase) (nat_lt 0 (number w.hold.applied unit)) none in
    let no_more : number w.hold.applied unit ≤ 0 = ltb-false 0 (number w.hold.applied unit) parts.1 in
    let zero : number v.hold.applied unit ≡ 0 = none-before job v e flag unit (omega arith) in
    let same : nat_lt 0 (number v.hold.applied unit) ≡ false = le-ltb 0 (number v.hold.applied unit) (omega arith) in
    ap (λ (b : Bool). b || nat_lt 0 (number v.hold.applied unit)) (not_switched-before job v e flag parts.0) ∙ same

unwritten-after : (job : Job) (v : View) (es : List Entry) (unit : ℕ) → is_written (after job v es) unit ≡ false → is_written v unit ≡ false
unwritten-after job v [] unit none = none
unwritten-after job v (e ∷ es) unit none =
    unwritten-step job v e.event (is_flagged e.turn) unit (unwritten-after job (step job v e.event (is_flagged e.turn)) es unit none)

after-both : (job : Job) (v : View) (before since : List Entry) → after job v (before ++ since) ≡ after job (after job v before) since
after-both job v [] since = refl
after-both job v (e ∷ es) since = after-both job (step job v e.event (is_flagged e.turn)) es since

view-since : (m n : Seen) (h : HasOrigin m n) → view_of n ≡ after (job_of m.job) (view_of m) h.since
view-since m n h =
    ap (λ (w : Written). run (job_of w) n.journal) h.rises.same_job
    ∙ ap (run (job_of m.job)) h.journal
    ∙ after-both (job_of m.job) (first_view (job_of m.job)) m.journal h.since

unwritten-before : (m n : Seen) (unit : ℕ) → HasOrigin m n → is_written (view_of n) unit ≡ false → is_written (view_of m) unit ≡ false
unwritten-before m n unit h none = unwritten-after (job_of m.job) (view_of m) h.since unit (ap (λ (v : View). is_written v unit) (sym (view-since m n h)) ∙ none)

tells-over : (l m n : Seen) → TellsOn l m → TellsOn m n → TellsOn l n
tells-over l m n h k = record {
  source = k.source ∙ h.source;
  dest = k.dest ∙ h.dest;
  source_units = k.source_units ∙ h.source_units;
  dest_units = k.dest_units ∙ h.dest_units;
  wires = k.wires ∙ h.wires;
}

pub origin-over : (l m n : Seen) → HasOrigin l m → HasOrigin m n → HasOrigin l n
origin-over l m n h k = record {
  since = h.since ++ k.since;
  journal = k.journal ∙ ap (λ (es : List Entry). es ++ k.since) h.journal ∙ append_assoc l.journal h.since k.since;
  read = h.read ++ k.read;
  reads = k.reads ∙ ap (λ (bytes : List ℕ). bytes ++ k.read) h.reads ∙ append_assoc l.reads h.read k.read;
  rises = rises-over l m n h.rises k.rises;
  takes_rise = takes-rise-over l m n h.takes_rise k.takes_rise;
  unwritten = record { units = λ unit none. k.unwritten.units unit none ∙ h.unwritten.units unit (unwritten-before m n unit k none) };
  tells = tells-over l m n h.tells k.tells;
}

pub origin-then : (start m n : Seen) (e : Event) (a : Turn) → HasOrigin start m → IsStep m e a n → HasOrigin start n
origin-then start m n e a h s = origin-over start m n h (origin-step m n e a s)

-- the journal of every migration is within its job's bound, which is small
pub journal-within : (m : Seen) → IsKept m → length m.journal ≤ bound (job_of m.job)
journal-within m k = omega (arith, run-within (job_of m.job) m.journal k.good k.fitting k.is_run)

pub journal-small : (m : Seen) → IsKept m → length m.journal < 2 ^ 32
journal-small m k = omega (arith, journal-within m k, bound-small (job_of m.job) k.good)

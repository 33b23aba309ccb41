-- What a migration tells is what its view says.
use Rattle.std.specs.Prelude.{◌≡◌, ◌≤◌, ◌<◌, ℕ, zero, suc, ◌+◌, ◌-◌, ◌&&◌, not, nat_le, nat_lt, Bool, true, false, List, [], ◌∷◌, length, map, drop, get_or, Option, Some, None, sum, count_by, if◌then◌else◌}
use Rattle.std.proofs.Common.{refl, sym, ap, subst, ◌∙◌, arith}
use Rattle.std.proofs.lemmas.Bool.{ltb-true}
use Rattle.std.proofs.lemmas.List.Sums.{sum_by-cons, sum_by-le-sum_by}
use Rattle.xv_base.specs.declared.operation.Outcome.{Outcome}
use Rattle.xv_base.specs.declared.operation.Outcome.TheVariants.{Done, Faulted}
use Rattle.xv_wire.specs.Told.{Told as WireTold}
use Rattle.xv_guest.specs.Log.{is_faulted, faulted}
use Rattle.xv_model.specs.Job.{Job, UnitOp}
use Rattle.xv_model.specs.Guest.{Ended, ended, is_done}
use Rattle.xv_model.specs.View.{View, Phase, Side, Disk, no_disk, number, is_empty, queues_empty, side}
use Rattle.xv_model.specs.Outstanding.{count, count_streams, of_unit}
use Rattle.xv_model.specs.Report.{probe, totals}
use Rattle.xv_model.specs.Work.{all_ended_from}
use Rattle.xv_source.specs.Half.{IsSourceOf, unsent}
use Rattle.xv_dest.specs.Half.{unwritten}
use Rattle.xv_streams.specs.Streamed.{LaneSeen}
use Rattle.xv_job.specs.Written.{job_of}
use Rattle.xv_core.specs.Seen.{Seen, OnWire, view_of}
use Rattle.xv_core.specs.State.{State, IsRunning, view, seen_of, on_wire}
use Rattle.xv_core.proofs.Keeping.Joined.{shows, is_source_of, view-holds}
use Rattle.xv_core.proofs.Totals.OfUnit.{outstanding-of, count-of}
use Rattle.xv_core.proofs.Totals.Issued.{behind}

false-right : (a b : Bool) → false ≡ b → false ≡ (a && b)
false-right true b e = e
false-right false b e = refl

-- queues: one that is not empty, or each is
pub not-empty : (disks : List Disk) (k : ℕ) → k < length disks → is_empty (get_or disks k no_disk).queue ≡ false → false ≡ queues_empty disks
not-empty [] k lt e = absurd (omega arith)
not-empty (d ∷ disks) zero lt e = sym (ap (λ (b : Bool). b && queues_empty disks) e)
not-empty (d ∷ disks) (suc k) lt e = false-right (is_empty d.queue) (queues_empty disks) (not-empty disks k (omega arith) e)

pub each-empty : (disks : List Disk) → ((k : ℕ) → k < length disks → is_empty (get_or disks k no_disk).queue ≡ true) → true ≡ queues_empty disks
each-empty [] h = refl
each-empty (d ∷ disks) h = each-empty disks (λ k lt. h (suc k) (omega arith)) ∙ sym (ap (λ (b : Bool). b && queues_empty disks) (h 0 (omega arith)))

-- guests: one whose operations have not all ended, or each guest's have
next-guest : (g k : ℕ) → g + suc k ≡ (g + 1) + k
next-guest g k = omega arith

pub not-ended : (traces : List (List UnitOp)) (history : List Ended) (g k : ℕ) → k < length traces → nat_le (length (get_or traces k [])) (ended history (g + k)) ≡ false → false ≡ all_ended_from g traces history
not-ended [] history g k lt e = absurd (omega arith)
not-ended (t ∷ traces) history g zero lt e =
    let same : g + 0 ≡ g = omega arith in
    sym (ap (λ (b : Bool). b && all_ended_from (g + 1) traces history) (sym (ap (λ (n : ℕ). nat_le (length t) (ended history n)) same) ∙ e))
not-ended (t ∷ traces) history g (suc k) lt e =
    false-right (nat_le (length t) (ended history g)) (all_ended_from (g + 1) traces history)
    (not-ended traces history (g + 1) k (omega arith) (sym (ap (λ (n : ℕ). nat_le (length (get_or traces k [])) (ended history n)) (next-guest g k)) ∙ e))

pub each-ended : (traces : List (List UnitOp)) (history : List Ended) (g : ℕ) → ((k : ℕ) → k < length traces → nat_le (length (get_or traces k [])) (ended history (g + k)) ≡ true) → true ≡ all_ended_from g traces history
each-ended [] history g h = refl
each-ended (t ∷ traces) history g h =
    let same : g + 0 ≡ g = omega arith in
    each-ended traces history (g + 1) (λ k lt. sym (ap (λ (n : ℕ). nat_le (length (get_or traces k [])) (ended history n)) (next-guest g k)) ∙ h (suc k) (omega arith))
    ∙ sym (ap (λ (b : Bool). b && all_ended_from (g + 1) traces history) (sym (ap (λ (n : ℕ). nat_le (length t) (ended history n)) same) ∙ h 0 (omega arith)))

-- the wires that are handed out tell what they told, and have their faults
pub wires-told : (lanes : List LaneSeen) → map (λ (l : LaneSeen). l.wire) lanes ≡ map (λ (w : OnWire). w.told) (map on_wire lanes)
wires-told [] = refl
wires-told (l ∷ ls) = ap (λ (ts : List WireTold). l.wire ∷ ts) (wires-told ls)

pub wires-faults : (lanes : List LaneSeen) → map (λ (l : LaneSeen). l.faults) lanes ≡ map (λ (w : OnWire). w.faults) (map on_wire lanes)
wires-faults [] = refl
wires-faults (l ∷ ls) = ap (λ (ns : List ℕ). l.faults ∷ ns) (wires-faults ls)

-- the value of an option that is there
pub some-is : (b : Bool) (at n : ℕ) → Some at ≡ (if b then Some n else None) → at ≡ n
some-is true at n e = cc
some-is false at n e = absurd (cc)

-- one unit: its messages in the outbox, on the wires and held make up all that is made and not written
probe-from : (job : Job) (v : View) (unit : ℕ) (told : Side) (issued applied outbox wires held : ℕ) →
    told ≡ side job v unit → issued ≡ number v.outbox.issued unit → applied ≡ number v.hold.applied unit → outbox ≡ count (of_unit unit) v.outbox.messages → wires ≡ count_streams (of_unit unit) v.streams → held ≡ count (of_unit unit) v.hold.held →
    record { unit = record { 0 = unit }; side = told; issued = issued; applied = applied; outbox = outbox; wires = wires; held = held } ≡ probe job v unit
probe-from job v unit told issued applied outbox wires held a b c d e f = rw (a, b, c, d, e, f) refl

record Counts (s : State) (unit : ℕ) : Type 0 where
  outbox : unsent s.source unit ≡ count (of_unit unit) (view s).outbox.messages
  held : unwritten s.dest unit ≡ count (of_unit unit) (view s).hold.held
  issued : number s.source.issued unit ≡ number (view s).outbox.issued unit
  applied : number s.dest.applied unit ≡ number (view s).hold.applied unit
  whole : unsent s.source unit + count_streams (of_unit unit) (view s).streams + unwritten s.dest unit + number s.dest.applied unit ≡ number s.source.issued unit

counts : (s : State) (unit : ℕ) → IsRunning s → Counts s unit
counts s unit r =
    let shown = shows s r in
    let outbox : unsent s.source unit ≡ count (of_unit unit) (view s).outbox.messages = count-of unit s.source.messages ∙ ap (count (of_unit unit)) (sym shown.messages) in
    let held : unwritten s.dest unit ≡ count (of_unit unit) (view s).hold.held = count-of unit s.dest.held ∙ ap (count (of_unit unit)) (sym shown.held) in
    let issued : number s.source.issued unit ≡ number (view s).outbox.issued unit = ap (λ (ns : List ℕ). number ns unit) (sym shown.issued) in
    let applied : number s.dest.applied unit ≡ number (view s).hold.applied unit = ap (λ (ns : List ℕ). number ns unit) (sym shown.applied) in
    record {
      outbox = outbox;
      held = held;
      issued = issued;
      applied = applied;
      whole = omega (arith, outbox, held, issued, applied, outstanding-of (view s) unit (view-holds s r).versions);
    }

pub unit-adds : (s : State) (unit : ℕ) → IsRunning s → number s.dest.applied unit + unsent s.source unit + unwritten s.dest unit ≤ number s.source.issued unit
unit-adds s unit r = let all = (counts s unit r).whole in omega arith

pub probe-told : (s : State) (m : Seen) (unit : ℕ) (told : Side) (issued applied outbox held : ℕ) →
    IsRunning s → seen_of s ≡ m → ((job : Job) (v : View) → IsSourceOf job v s.source → told ≡ side job v unit) →
    issued ≡ number s.source.issued unit → applied ≡ number s.dest.applied unit → outbox ≡ unsent s.source unit → held ≡ unwritten s.dest unit →
    record { unit = record { 0 = unit }; side = told; issued = issued; applied = applied; outbox = outbox; wires = issued - applied - outbox - held; held = held } ≡ probe (job_of m.job) (view_of m) unit
probe-told s m unit told issued applied outbox held r seen sided a b c d =
    let n = counts s unit r in
    let wires : issued - applied - outbox - held ≡ count_streams (of_unit unit) (view s).streams = omega (arith, n.whole, a, b, c, d) in
    subst (λ (x : Seen). record { unit = record { 0 = unit }; side = told; issued = issued; applied = applied; outbox = outbox; wires = issued - applied - outbox - held; held = held } ≡ probe (job_of x.job) (view_of x) unit) seen
    (probe-from (job_of s.job) (view s) unit told issued applied outbox (issued - applied - outbox - held) held (sided (job_of s.job) (view s) (is_source_of s r)) (a ∙ n.issued) (b ∙ n.applied) (c ∙ n.outbox) wires (d ∙ n.held))

-- how many have faulted
fault : (o : Outcome) → is_faulted o ≡ not (is_done o)
fault Done = refl
fault Faulted = refl

faulted-is : (h : List Ended) → faulted h ≡ count_by (λ (e : Ended). not (is_done e.outcome)) h
faulted-is [] = refl
faulted-is (e ∷ h) =
    sum_by-cons (λ (x : Ended). if is_faulted x.outcome then 1 else 0) e h
    ∙ ap (λ (b : Bool). (if b then 1 else 0) + faulted h) (fault e.outcome)
    ∙ ap (λ (n : ℕ). (if not (is_done e.outcome) then 1 else 0) + n) (faulted-is h)
    ∙ sym (sum_by-cons (λ (x : Ended). if not (is_done x.outcome) then 1 else 0) e h)

-- how many numbers are above zero is at most their sum
one_or_more : (n : ℕ) → (if nat_lt 0 n then 1 else 0) ≤ n
one_or_more n = by (nat_lt 0 n) refl
  where
    by : (b : Bool) → nat_lt 0 n ≡ b → (if b then 1 else 0) ≤ n
    by true e = let lt = ltb-true 0 n e in omega arith
    by false e = omega arith

pub count-le-sum : (ns : List ℕ) → count_by (λ (k : ℕ). nat_lt 0 k) ns ≤ sum ns
count-le-sum ns = sum_by-le-sum_by (λ (k : ℕ). if nat_lt 0 k then 1 else 0) (λ (k : ℕ). k) ns one_or_more

-- the report
totals-from : (job : Job) (v : View) (n : ℕ) (phase : Phase) (stun : Option ℕ) (history faults journal copied rounds messages mirrors applied credit : ℕ) →
    phase ≡ v.phase → stun ≡ v.stun → history ≡ length v.history → faults ≡ count_by (λ (e : Ended). not (is_done e.outcome)) v.history → journal ≡ n → copied ≡ behind v.disks → rounds ≡ v.rounds → messages ≡ sum v.outbox.issued →
    mirrors ≡ sum (drop job.copy.pages v.outbox.issued) - count_by (λ (k : ℕ). nat_lt 0 k) (drop job.copy.pages v.outbox.issued) → applied ≡ sum v.hold.applied → credit ≡ v.credit →
    record { phase = phase; history = history; faulted = faults; journal = journal; stun = stun; copied = copied; rounds = rounds; messages = messages; mirrors = mirrors; applied = applied; credit = credit } ≡ totals job v n
totals-from job v n phase stun history faults journal copied rounds messages mirrors applied credit a b c d e f g h i j k = rw (a, b, c, d, e, f, g, h, i, j, k) refl

pub totals-told : (s : State) (m : Seen) (history faults journal copied rounds messages mirrors applied credit : ℕ) →
    IsRunning s → seen_of s ≡ m → history ≡ length s.history → faults ≡ faulted s.history → journal ≡ length s.journal → copied ≡ behind s.source.disks → rounds ≡ s.source.rounds → messages ≡ sum s.source.issued →
    mirrors ≡ sum (drop s.job.shape.pages s.source.issued) - count_by (λ (k : ℕ). nat_lt 0 k) (drop s.job.shape.pages s.source.issued) → applied ≡ sum s.dest.applied → credit ≡ s.source.credit →
    record { phase = s.phase; history = history; faulted = faults; journal = journal; stun = s.stun; copied = copied; rounds = rounds; messages = messages; mirrors = mirrors; applied = applied; credit = credit } ≡ totals (job_of m.job) (view_of m) (length m.journal)
totals-told s m history faults journal copied rounds messages mirrors applied credit r seen a b c d e f g h i =
    let shown = shows s r in
    let above : List ℕ → ℕ = λ ns. sum (drop s.job.shape.pages ns) - count_by (λ (k : ℕ). nat_lt 0 k) (drop s.job.shape.pages ns) in
    subst (λ (x : Seen). record { phase = s.phase; history = history; faulted = faults; journal = journal; stun = s.stun; copied = copied; rounds = rounds; messages = messages; mirrors = mirrors; applied = applied; credit = credit } ≡ totals (job_of x.job) (view_of x) (length x.journal)) seen
    (totals-from (job_of s.job) (view s) (length s.journal) s.phase s.stun history faults journal copied rounds messages mirrors applied credit
    (sym shown.phase) (sym shown.stun) (a ∙ ap (λ (x : List Ended). length x) (sym shown.history)) (b ∙ faulted-is s.history ∙ ap (λ (x : List Ended). count_by (λ (y : Ended). not (is_done y.outcome)) x) (sym shown.history)) c
    (d ∙ ap behind (sym shown.disks)) (e ∙ sym shown.rounds) (f ∙ ap (λ (x : List ℕ). sum x) (sym shown.issued)) (g ∙ ap above (sym shown.issued)) (h ∙ ap (λ (x : List ℕ). sum x) (sym shown.applied)) (i ∙ sym shown.credit))

-- Every list keeps its length, the groups on the streams stay as the job's format has them, and the `at` of a unit's
-- first version stays at most the mark.
use Rattle.std.proofs.Common.{◌≡◌, ℕ, zero, suc, ◌+◌, ◌≤◌, ◌==◌, ◌&&◌, nat_lt, not, Bool, true, false, if◌then◌else◌, List, [], ◌∷◌, ◌++◌, length, take, drop, set, get_or, refl, ◌∙◌, inl, inr, arith}
use Rattle.std.proofs.lemmas.List.{length-set, length-take, length-map, length-replicate}
use Rattle.std.proofs.lemmas.Bool.{lt-ltb, le-ltb, eq-eqb, eqb-true, cases_Bool, and_parts, and_from as both}
use Rattle.xv_model.specs.Job.{Job, IsGoodJob, UnitOp, unit_count, disk_of}
use Rattle.xv_model.specs.View.{View, Disk, Outbox, UnitHead, Phase, number, member, least, disk, front, is_live, is_running, stream}
use Rattle.xv_model.specs.Wait.{Event, Aim, Alone, Store, Join, Mirror, next_operation, next_aim, fits}
use Rattle.xv_model.specs.Effect.{made, made_run, ended_as, Outcome, guest_by, advanced, released, page_sent_off, batch, sent, given_up, without_region, front_gone, cursor_unit, with_disk}
use Rattle.xv_base.specs.declared.event.Phase.TheVariants.{Cancelled, Failed}
use Rattle.std.proofs.Math.Nat.{le_trans}
use Rattle.xv_model.specs.Step.{step}
use Rattle.xv_model.specs.Invariant.{ListsHaveLengths, IsViewOf, is_good_group, are_good_groups}
use Rattle.xv_base.specs.declared.operation.Outcome.TheVariants.{Faulted}
use Rattle.xv_model.proofs.GoesOn.{running_is_live, aim-mirror, SendGoes, batch_fits}
use Rattle.xv_model.proofs.Steps.{EffectsKeep, step_keeps}

-- the first `at` of each unit, after a message was made
set-le : (xs : List ℕ) (i x m u : ℕ) → number xs u ≤ m → x ≤ m → number (set xs i x) u ≤ m
set-le [] i x m u h l = h
set-le (y ∷ xs) zero x m zero h l = l
set-le (y ∷ xs) zero x m (suc u) h l = h
set-le (y ∷ xs) (suc i) x m zero h l = h
set-le (y ∷ xs) (suc i) x m (suc u) h l = set-le xs i x m u h l

first-le : (t : Bool) (xs : List ℕ) (i x m u : ℕ) → number xs u ≤ m → x ≤ m → number (if t then set xs i x else xs) u ≤ m
first-le true xs i x m u h l = set-le xs i x m u h l
first-le false xs i x m u h l = h

length-first : (t : Bool) (xs : List ℕ) (i x : ℕ) → length (if t then set xs i x else xs) ≡ length xs
length-first true xs i x = length-set xs i x
length-first false xs i x = refl

pub first-made-le : (box : Outbox) (unit at m u : ℕ) → number box.first u ≤ m → at ≤ m → number (made box unit at).first u ≤ m
first-made-le box unit at m u h l = first-le (number box.issued unit == 0) box.first unit at m u h l

pub length-first-made : (box : Outbox) (unit at : ℕ) → length (made box unit at).first ≡ length box.first
length-first-made box unit at = length-first (number box.issued unit == 0) box.first unit at

pub length-issued-made : (box : Outbox) (unit at : ℕ) → length (made box unit at).issued ≡ length box.issued
length-issued-made box unit at = length-set box.issued unit (number box.issued unit + 1)

pub first-run-le : (box : Outbox) (unit at n m u : ℕ) → number box.first u ≤ m → at ≤ m → number (made_run box unit at n).first u ≤ m
first-run-le box unit at zero m u h l = h
first-run-le box unit at (suc n) m u h l = first-made-le (made_run box unit at n) (unit + n) at m u (first-run-le box unit at n m u h l) l

pub length-first-run : (box : Outbox) (unit at n : ℕ) → length (made_run box unit at n).first ≡ length box.first
length-first-run box unit at zero = refl
length-first-run box unit at (suc n) = length-first-made (made_run box unit at n) (unit + n) at ∙ length-first-run box unit at n

pub length-issued-run : (box : Outbox) (unit at n : ℕ) → length (made_run box unit at n).issued ≡ length box.issued
length-issued-run box unit at zero = refl
length-issued-run box unit at (suc n) = length-issued-made (made_run box unit at n) (unit + n) at ∙ length-issued-run box unit at n

-- the mark does not fall
pub mark_up : (live : Bool) (mark n : ℕ) → mark ≤ n → mark ≤ (if live then n + 1 else mark)
mark_up true mark n h = omega arith
mark_up false mark n h = omega arith

mirrored : (live : Bool) (n mark k : ℕ) → live ≡ true → k ≤ n + 1 → k ≤ (if live then n + 1 else mark)
mirrored true n mark k e h = h
mirrored false n mark k e h = absurd (cc)

length-store : (b : Bool) (pages : List Bool) (page : ℕ) → length (if b then set pages page true else pages) ≡ length pages
length-store true pages page = length-set pages page true
length-store false pages page = refl

-- the groups
good_group_by : (format group n : ℕ) → 1 ≤ n → n ≤ group → (format ≡ 1 → n ≡ 1) → (if format == 1 then n == 1 else (nat_lt 0 n && not (nat_lt group n))) ≡ true
good_group_by format group n some few one = elim (cases_Bool (format == 1)) [
  | inl e ↦ rw e (eq-eqb n 1 (one (eqb-true format 1 e)))
  | inr e ↦ rw (e, lt-ltb 0 n some, le-ltb group n few) refl
]

good_groups-append : (job : Job) (groups : List (List UnitHead)) (group : List UnitHead) → are_good_groups job groups ≡ true → is_good_group job group ≡ true → are_good_groups job (groups ++ group ∷ []) ≡ true
good_groups-append job [] group h l = both (is_good_group job group) true l refl
good_groups-append job (g ∷ groups) group h l =
    both (is_good_group job g) (are_good_groups job (groups ++ group ∷ [])) (and_parts (is_good_group job g) (are_good_groups job groups) h).0
    (good_groups-append job groups group (and_parts (is_good_group job g) (are_good_groups job groups) h).1 l)

good_groups-drop : (job : Job) (groups : List (List UnitHead)) → are_good_groups job groups ≡ true → are_good_groups job (drop 1 groups) ≡ true
good_groups-drop job [] h = h
good_groups-drop job (g ∷ groups) h = (and_parts (is_good_group job g) (are_good_groups job groups) h).1

good_streams-set : (job : Job) (streams : List (List (List UnitHead))) (s i : ℕ) (groups : List (List UnitHead)) → are_good_groups job (get_or streams i []) ≡ true → are_good_groups job groups ≡ true → are_good_groups job (get_or (set streams s groups) i []) ≡ true
good_streams-set job [] s i groups h l = h
good_streams-set job (x ∷ streams) zero zero groups h l = l
good_streams-set job (x ∷ streams) zero (suc i) groups h l = h
good_streams-set job (x ∷ streams) (suc s) zero groups h l = h
good_streams-set job (x ∷ streams) (suc s) (suc i) groups h l = good_streams-set job streams s i groups h l

good_sent : (job : Job) (v : View) → IsGoodJob job → SendGoes job v → is_good_group job (take (batch job v) v.outbox.messages) ≡ true
good_sent job v good goes =
    let b = batch_fits job v good goes in
    let n : length (take (batch job v) v.outbox.messages) ≡ batch job v = omega (arith, length-take (batch job v) v.outbox.messages, b.of_messages) in
    good_group_by job.format job.group (length (take (batch job v) v.outbox.messages)) (omega (arith, b.some)) (omega (arith, b.of_group)) (λ e. n ∙ b.one e)

-- each effect
guest_lists : (job : Job) (v : View) (g : ℕ) (op : UnitOp) (a : Aim) → IsViewOf job v → (a ≡ Mirror → is_live v.phase ≡ true) → ListsHaveLengths job (guest_by job v g op a)
guest_lists job v g op Alone i live =
    let l = i.lists in record { disks = l.disks; dirty = l.dirty; to_send = l.to_send; issued = l.issued; first = l.first; applied = l.applied; recorded = l.recorded; streams = l.streams; groups = l.groups; first_to_mark = λ u. le_trans (l.first_to_mark u) (mark_up (is_live v.phase) v.mark (length v.history) i.history.mark_within) }
guest_lists job v g op Store i live =
    let l = i.lists in record { disks = l.disks; dirty = length-store (not (member v.to_send op.unit.0)) v.dirty op.unit.0 ∙ l.dirty; to_send = l.to_send; issued = l.issued; first = l.first; applied = l.applied; recorded = l.recorded; streams = l.streams; groups = l.groups; first_to_mark = λ u. le_trans (l.first_to_mark u) (mark_up (is_live v.phase) v.mark (length v.history) i.history.mark_within) }
guest_lists job v g op Join i live =
    let l = i.lists in record { disks = length-set v.disks (disk_of job.copy op.unit.0) _ ∙ l.disks; dirty = l.dirty; to_send = l.to_send; issued = l.issued; first = l.first; applied = l.applied; recorded = l.recorded; streams = l.streams; groups = l.groups; first_to_mark = l.first_to_mark }
guest_lists job v g op Mirror i live =
    let l = i.lists in record { disks = l.disks; dirty = l.dirty; to_send = l.to_send; issued = length-issued-made v.outbox op.unit.0 (length v.history + 1) ∙ l.issued; first = length-first-made v.outbox op.unit.0 (length v.history + 1) ∙ l.first; applied = l.applied; recorded = l.recorded; streams = l.streams; groups = l.groups; first_to_mark = λ u. mirrored (is_live v.phase) (length v.history) v.mark (number (made v.outbox op.unit.0 (length v.history + 1)).first u) (live refl) (first-made-le v.outbox op.unit.0 (length v.history + 1) (length v.history + 1) u (omega (arith, l.first_to_mark u, i.history.mark_within)) (omega arith)) }

ended_lists : (job : Job) (v : View) (g : ℕ) (outcome : Outcome) → IsViewOf job v → ListsHaveLengths job (ended_as v g outcome)
ended_lists job v g outcome i =
    let l = i.lists in record { disks = l.disks; dirty = l.dirty; to_send = l.to_send; issued = l.issued; first = l.first; applied = l.applied; recorded = l.recorded; streams = l.streams; groups = l.groups; first_to_mark = λ u. le_trans (l.first_to_mark u) (mark_up (is_live v.phase) v.mark (length v.history) i.history.mark_within) }

-- an outbox after the write at the front of a queue
release_outbox : (r : Bool) (box : Outbox) (unit at m n : ℕ) → ((u : ℕ) → number box.first u ≤ m) → (r ≡ true → at ≤ m) → length box.issued ≡ n → length box.first ≡ n →
    (length (if r then made box unit at else box).issued ≡ n) × (length (if r then made box unit at else box).first ≡ n) × ((u : ℕ) → number (if r then made box unit at else box).first u ≤ m)
release_outbox true box unit at m n h l e f = (length-issued-made box unit at ∙ e, length-first-made box unit at ∙ f, λ u. first-made-le box unit at m u (h u) (l refl))
release_outbox false box unit at m n h l e f = (e, f, h)

released_lists : (job : Job) (v : View) (d : ℕ) → IsViewOf job v → ListsHaveLengths job (released v d)
released_lists job v d i =
    let l = i.lists in
    let box = release_outbox (is_running v.phase) v.outbox (front (disk v d)).unit.0 (length v.history + 1) (if is_live v.phase then length v.history + 1 else v.mark) (unit_count job)
    (λ u. le_trans (l.first_to_mark u) (mark_up (is_live v.phase) v.mark (length v.history) i.history.mark_within))
    (λ r. mirrored (is_live v.phase) (length v.history) v.mark (length v.history + 1) (running_is_live v.phase r) (omega arith))
    l.issued l.first in
    record { disks = length-set v.disks d (front_gone (disk v d)) ∙ l.disks; dirty = l.dirty; to_send = l.to_send; issued = box.0; first = box.1; applied = l.applied; recorded = l.recorded; streams = l.streams; groups = l.groups; first_to_mark = box.2 }

advanced_lists : (job : Job) (v : View) (d : ℕ) → IsViewOf job v → is_live v.phase ≡ true → ListsHaveLengths job (advanced job v d)
advanced_lists job v d i live =
    let l = i.lists in
    let unit = cursor_unit job v d in
    let at = length v.history in
    let n = (disk v d).region in
    record { disks = length-set v.disks d _ ∙ l.disks; dirty = l.dirty; to_send = l.to_send; issued = length-issued-run v.outbox unit at n ∙ l.issued; first = length-first-run v.outbox unit at n ∙ l.first; applied = l.applied; recorded = l.recorded; streams = l.streams; groups = l.groups; first_to_mark = λ u. first-run-le v.outbox unit at n v.mark u (l.first_to_mark u) (omega (arith, i.history.marked live)) }

page_lists : (job : Job) (v : View) → IsViewOf job v → is_live v.phase ≡ true → ListsHaveLengths job (page_sent_off v)
page_lists job v i live =
    let l = i.lists in
    let unit = least v.to_send in
    let at = length v.history in
    record { disks = l.disks; dirty = l.dirty; to_send = length-set v.to_send unit false ∙ l.to_send; issued = length-issued-made v.outbox unit at ∙ l.issued; first = length-first-made v.outbox unit at ∙ l.first; applied = l.applied; recorded = l.recorded; streams = l.streams; groups = l.groups; first_to_mark = λ u. first-made-le v.outbox unit at v.mark u (l.first_to_mark u) (omega (arith, i.history.marked live)) }

with_disk_lists : (job : Job) (v : View) (d : ℕ) (new : Disk) → IsViewOf job v → ListsHaveLengths job (with_disk v d new)
with_disk_lists job v d new i =
    let l = i.lists in record { disks = length-set v.disks d new ∙ l.disks; dirty = l.dirty; to_send = l.to_send; issued = l.issued; first = l.first; applied = l.applied; recorded = l.recorded; streams = l.streams; groups = l.groups; first_to_mark = l.first_to_mark }

given_up_lists : (job : Job) (v : View) (p : Phase) → IsViewOf job v → ListsHaveLengths job (given_up v p)
given_up_lists job v p i =
    let l = i.lists in record { disks = length-map v.disks without_region ∙ l.disks; dirty = l.dirty; to_send = l.to_send; issued = l.issued; first = l.first; applied = l.applied; recorded = l.recorded; streams = l.streams; groups = l.groups; first_to_mark = l.first_to_mark }

sent_lists : (job : Job) (v : View) (s : ℕ) → IsGoodJob job → IsViewOf job v → SendGoes job v → ListsHaveLengths job (sent job v s)
sent_lists job v s good i goes =
    let l = i.lists in record { disks = l.disks; dirty = l.dirty; to_send = l.to_send; issued = l.issued; first = l.first; applied = l.applied; recorded = l.recorded; streams = length-set v.streams s _ ∙ l.streams; groups = λ j. good_streams-set job v.streams s j _ (l.groups j) (good_groups-append job (stream v s) (take (batch job v) v.outbox.messages) (l.groups s) (good_sent job v good goes)); first_to_mark = l.first_to_mark }

pub lists-keep : (job : Job) (v : View) → IsGoodJob job → IsViewOf job v → EffectsKeep (ListsHaveLengths job) job v
lists-keep job v good i =
    let l = i.lists in
    record {
      guest = λ g m goes. guest_lists job v g (next_operation job v g) (next_aim job v g) i (λ e. running_is_live v.phase (aim-mirror job v (next_operation job v g) e).running);
      guest_fault = λ g m goes. ended_lists job v g Faulted i;
      begin = λ d m goes. with_disk_lists job v d _ i;
      read = λ d m goes. with_disk_lists job v d _ i;
      advance = λ d m goes. advanced_lists job v d i (running_is_live v.phase goes.running);
      release = λ d m goes. released_lists job v d i;
      release_fault = λ d m goes.
          let e = ended_lists job v (front (disk v d)).guest.0 Faulted i in
          record { disks = length-set v.disks d (front_gone (disk v d)) ∙ l.disks; dirty = e.dirty; to_send = e.to_send; issued = e.issued; first = e.first; applied = e.applied; recorded = e.recorded; streams = e.streams; groups = e.groups; first_to_mark = e.first_to_mark };
      round = λ goes. record { disks = l.disks; dirty = length-replicate (length v.dirty) false ∙ l.dirty; to_send = l.dirty; issued = l.issued; first = l.first; applied = l.applied; recorded = l.recorded; streams = l.streams; groups = l.groups; first_to_mark = l.first_to_mark };
      page = λ goes. page_lists job v i goes.live;
      send = λ s m goes. sent_lists job v s good i goes;
      deliver = λ s m goes. record { disks = l.disks; dirty = l.dirty; to_send = l.to_send; issued = l.issued; first = l.first; applied = l.applied; recorded = l.recorded; streams = length-set v.streams s _ ∙ l.streams; groups = λ j. good_streams-set job v.streams s j _ (l.groups j) (good_groups-drop job (stream v s) (l.groups s)); first_to_mark = l.first_to_mark };
      apply = λ goes. record { disks = l.disks; dirty = l.dirty; to_send = l.to_send; issued = l.issued; first = l.first; applied = length-set v.hold.applied _ _ ∙ l.applied; recorded = length-set v.hold.recorded _ _ ∙ l.recorded; streams = l.streams; groups = l.groups; first_to_mark = l.first_to_mark };
      ack = λ goes. record { disks = l.disks; dirty = l.dirty; to_send = l.to_send; issued = l.issued; first = l.first; applied = l.applied; recorded = l.recorded; streams = l.streams; groups = l.groups; first_to_mark = l.first_to_mark };
      credit = λ goes. record { disks = l.disks; dirty = l.dirty; to_send = l.to_send; issued = l.issued; first = l.first; applied = l.applied; recorded = l.recorded; streams = l.streams; groups = l.groups; first_to_mark = l.first_to_mark };
      stun = λ goes. record { disks = l.disks; dirty = length-replicate (length v.dirty) false ∙ l.dirty; to_send = l.dirty; issued = l.issued; first = l.first; applied = l.applied; recorded = l.recorded; streams = l.streams; groups = l.groups; first_to_mark = l.first_to_mark };
      switch = λ goes. record { disks = l.disks; dirty = l.dirty; to_send = l.to_send; issued = l.issued; first = l.first; applied = l.applied; recorded = l.recorded; streams = l.streams; groups = l.groups; first_to_mark = l.first_to_mark };
      cancel = λ goes. given_up_lists job v Cancelled i;
      fail = λ live. given_up_lists job v Failed i;
    }

pub lists-step : (job : Job) (v : View) (e : Event) (flag : Bool) → IsGoodJob job → fits job e ≡ true → IsViewOf job v → ListsHaveLengths job (step job v e flag)
lists-step job v e flag good f i = step_keeps (ListsHaveLengths job) job v e flag f i.lists (lists-keep job v good i)

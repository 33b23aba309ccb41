-- A guest's entries in a journal, against its operations that have ended and its write that waits.
use Rattle.std.proofs.Common.{◌≡◌, ℕ, ◌+◌, ◌<◌, ◌==◌, ◌&&◌, not, Bool, true, false, if◌then◌else◌, List, [], ◌∷◌, length, set, None, refl, ap, ◌∙◌, arith}
use Rattle.std.specs.List.{list_all}
use Rattle.std.proofs.lemmas.Bool.{and_parts, ltb-true}
use Rattle.std.proofs.lemmas.List.Sums.{sum_by-cons, sum_by_push}
use Rattle.xv_base.specs.declared.event.Event.TheVariants.{Guest, Begin, Read, Advance, Release, Round, Page, Send, Deliver, Apply, Ack, Credit, Stun, Switch, Cancel}
use Rattle.xv_base.specs.declared.event.Phase.TheVariants.{Cancelled, Failed}
use Rattle.xv_base.specs.declared.operation.Outcome.TheVariants.{Done, Faulted}
use Rattle.xv_model.specs.Job.{Job, IsGoodJob, disk_of}
use Rattle.xv_model.specs.Guest.{Ended, ended, is_done}
use Rattle.xv_model.specs.View.{View, first_view, disk, front}
use Rattle.xv_model.specs.Wait.{Event, Aim, Alone, Store, Join, Mirror, wait, fits, next_operation, next_aim}
use Rattle.xv_model.specs.Effect.{Turn, effect, fault_effect, answer, fault_answer, guest_by, guest_answer, joined, front_gone, region_length, ended_as, given_up}
use Rattle.xv_model.specs.Step.{Entry, step, turn, after, run, is_flagged, same_turn, is_run, is_run_from}
use Rattle.xv_model.specs.Invariant.{IsViewOf, waits_in_all}
use Rattle.xv_model.specs.Growth.{happened, is_queued, is_fault}
use Rattle.xv_model.specs.Journal.{is_of, own_entries, frees, releases, releases_from, is_release, tells, releases_told, done_by, faulted_by}
use Rattle.xv_model.proofs.GoesOn.{GuestGoes, aim-join, guest_goes, release_goes}
use Rattle.xv_model.proofs.Facts.{mirror_unit}
use Rattle.xv_model.proofs.First.{first_view-holds}
use Rattle.xv_model.proofs.Histories.{push, ended-push}
use Rattle.xv_model.proofs.Kept.{step-holds}
use Rattle.xv_model.proofs.Layouts.{disk_in}
use Rattle.xv_model.proofs.Journal.Ways.{entry_ways}
use Rattle.xv_model.proofs.Journal.Waits.{waits-push, waits-front, waits-set, waits-set_same, waits-without, waits-none}

-- what counts
abbrev bit : Bool → ℕ
bit b = if b then 1 else 0

-- what an entry does to a guest's numbers: its operations that have ended and that were done, and how often it waits
record Moves (v w : View) (g : ℕ) (e : Event) (t : Turn) : Type 0 where
  ended_is : ended w.history g ≡ ended v.history g + bit (is_of g e && happened t) + bit (is_of g e && is_fault t) + bit (frees v g e)
  waits_is : waits_in_all w.disks g + bit (frees v g e) ≡ waits_in_all v.disks g + bit (is_of g e && is_queued t)
  done_is : done_by w.history g ≡ done_by v.history g + bit (is_of g e && happened t) + bit (is_release e && tells g t)

-- an entry more in the history
done-push : (h : List Ended) (e : Ended) (g : ℕ) → done_by (push h e) g ≡ done_by h g + bit ((e.guest.0 == g) && is_done e.outcome)
done-push h e g = sum_by_push (λ (x : Ended). bit ((x.guest.0 == g) && is_done x.outcome)) h e

done_bits : (x n : ℕ) (b : Bool) → x ≡ n + bit b → x ≡ n + bit (b && true) + bit (b && false) + 0
done_bits x n true e = omega arith
done_bits x n false e = omega arith

fault_bits : (x n : ℕ) (b : Bool) → x ≡ n + bit b → x ≡ n + bit (b && false) + bit (b && true) + 0
fault_bits x n true e = omega arith
fault_bits x n false e = omega arith

no_bits : (n : ℕ) (b : Bool) → n ≡ n + bit (b && false) + bit (b && false) + 0
no_bits n true = omega arith
no_bits n false = omega arith

no_bit : (n : ℕ) (b : Bool) → n + 0 ≡ n + bit (b && false)
no_bit n true = omega arith
no_bit n false = omega arith

none_done : (n x : ℕ) (b : Bool) → x ≡ n + bit (b && false) → x ≡ n + bit (b && false) + 0
none_done n x b e = omega arith

one_done : (n x : ℕ) (b : Bool) → x ≡ n + bit (b && true) → x ≡ n + bit (b && true) + 0
one_done n x b e = omega arith

one_waits : (x q n y : ℕ) (b : Bool) → x + q ≡ n + y → y ≡ q + bit b → x + 0 ≡ n + bit (b && true)
one_waits x q n y true e f = omega arith
one_waits x q n y false e f = omega arith

-- a guest's event
guest_pushes : (job : Job) (v : View) (k g : ℕ) → Moves v (guest_by job v k (next_operation job v k) Alone) g (Guest (record { 0 = k })) (guest_answer (next_operation job v k) Alone)
guest_pushes job v k g =
    let e : Ended = record { guest = record { 0 = k }; outcome = Done } in
    record {
      ended_is = done_bits (ended (push v.history e) g) (ended v.history g) (k == g) (ended-push v.history e g);
      waits_is = no_bit (waits_in_all v.disks g) (k == g);
      done_is = one_done (done_by v.history g) (done_by (push v.history e) g) (k == g) (done-push v.history e g);
    }

guest_joins : (job : Job) (v : View) (k g : ℕ) → disk_of job.copy (next_operation job v k).unit.0 < length v.disks → Moves v (guest_by job v k (next_operation job v k) Join) g (Guest (record { 0 = k })) (guest_answer (next_operation job v k) Join)
guest_joins job v k g l =
    let unit = (next_operation job v k).unit.0 in
    let d = disk_of job.copy unit in
    record {
      ended_is = no_bits (ended v.history g) (k == g);
      waits_is = one_waits _ _ _ _ (k == g) (waits-set v.disks d (joined (disk v d) k unit) g l) (waits-push (disk v d).queue (record { guest = record { 0 = k }; unit = record { 0 = unit } }) g);
      done_is = none_done (done_by v.history g) (done_by v.history g) (k == g) (none_of (done_by v.history g) (k == g));
    }
  where
    none_of : (n : ℕ) (b : Bool) → n ≡ n + bit (b && false)
    none_of n true = omega arith
    none_of n false = omega arith

guest_moves : (job : Job) (v : View) (k g : ℕ) (a : Aim) → (a ≡ Join → disk_of job.copy (next_operation job v k).unit.0 < length v.disks) → Moves v (guest_by job v k (next_operation job v k) a) g (Guest (record { 0 = k })) (guest_answer (next_operation job v k) a)
guest_moves job v k g Alone l = guest_pushes job v k g
guest_moves job v k g Store l = let same = guest_pushes job v k g in record { ended_is = same.ended_is; waits_is = same.waits_is; done_is = same.done_is }
guest_moves job v k g Join l = guest_joins job v k g (l refl)
guest_moves job v k g Mirror l = let same = guest_pushes job v k g in record { ended_is = same.ended_is; waits_is = same.waits_is; done_is = same.done_is }

joins_disk : (job : Job) (v : View) (k : ℕ) → IsGoodJob job → IsViewOf job v → GuestGoes job v k → next_aim job v k ≡ Join → disk_of job.copy (next_operation job v k).unit.0 < length v.disks
joins_disk job v k good i goes e =
    let op = next_operation job v k in
    omega (arith, i.lists.disks, disk_in job.copy op.unit.0 (aim-join job v op e).block (mirror_unit job v k good goes))

guest_faults : (v : View) (k g : ℕ) → Moves v (ended_as v k Faulted) g (Guest (record { 0 = k })) (fault_answer (Guest (record { 0 = k })))
guest_faults v k g =
    let e : Ended = record { guest = record { 0 = k }; outcome = Faulted } in
    record {
      ended_is = fault_bits (ended (push v.history e) g) (ended v.history g) (k == g) (ended-push v.history e g);
      waits_is = no_bit (waits_in_all v.disks g) (k == g);
      done_is = none_done (done_by v.history g) (done_by (push v.history e) g) (k == g) (done-push v.history e g);
    }

-- a release, of the front of a queue
one_ended : (x n : ℕ) (b : Bool) → x ≡ n + bit b → x ≡ n + 0 + 0 + bit b
one_ended x n b e = omega arith

one_less : (x q n y : ℕ) (b : Bool) → x + q ≡ n + y → y + bit b ≡ q → x + bit b ≡ n + 0
one_less x q n y true e f = omega arith
one_less x q n y false e f = omega arith

done_release : (x n : ℕ) (b : Bool) → x ≡ n + bit (b && true) → x ≡ n + 0 + bit b
done_release x n true e = omega arith
done_release x n false e = omega arith

fault_release : (x n : ℕ) (b : Bool) → x ≡ n + bit (b && false) → x ≡ n + 0 + 0
fault_release x n true e = omega arith
fault_release x n false e = omega arith

front_leaves : (v : View) (d g : ℕ) → d < length v.disks → 0 < length (disk v d).queue → waits_in_all (set v.disks d (front_gone (disk v d))) g + bit ((front (disk v d)).guest.0 == g) ≡ waits_in_all v.disks g + 0
front_leaves v d g l some = one_less _ _ _ _ ((front (disk v d)).guest.0 == g) (waits-set v.disks d (front_gone (disk v d)) g l) (waits-front (disk v d).queue g some)

release_moves : (job : Job) (v : View) (d g : ℕ) → d < length v.disks → 0 < length (disk v d).queue → Moves v (effect job v (Release d)) g (Release d) (answer job v (Release d))
release_moves job v d g l some =
    let e : Ended = record { guest = (front (disk v d)).guest; outcome = Done } in
    let b = (front (disk v d)).guest.0 == g in
    record {
      ended_is = one_ended (ended (push v.history e) g) (ended v.history g) b (ended-push v.history e g);
      waits_is = front_leaves v d g l some;
      done_is = done_release (done_by (push v.history e) g) (done_by v.history g) b (done-push v.history e g);
    }

release_faults : (v : View) (d g : ℕ) → d < length v.disks → 0 < length (disk v d).queue → Moves v (fault_effect v (Release d)) g (Release d) (fault_answer (Release d))
release_faults v d g l some =
    let e : Ended = record { guest = record { 0 = (front (disk v d)).guest.0 }; outcome = Faulted } in
    let b = (front (disk v d)).guest.0 == g in
    record {
      ended_is = one_ended (ended (push v.history e) g) (ended v.history g) b (ended-push v.history e g);
      waits_is = front_leaves v d g l some;
      done_is = fault_release (done_by (push v.history e) g) (done_by v.history g) b (done-push v.history e g);
    }

-- all other events
stays : (n : ℕ) → n ≡ n + 0 + 0 + 0
stays n = omega arith

stays_done : (n : ℕ) → n ≡ n + 0 + 0
stays_done n = omega arith

no_move : (v w : View) (g : ℕ) (e : Event) (t : Turn) → is_of g e ≡ false → frees v g e ≡ false → is_release e ≡ false → w.history ≡ v.history → waits_in_all w.disks g ≡ waits_in_all v.disks g → Moves v w g e t
no_move v w g e t own free release same waits = record {
  ended_is = rw (own, free) (ap (λ (h : List Ended). ended h g) same ∙ stays (ended v.history g));
  waits_is = rw (own, free) (ap (λ (n : ℕ). n + 0) waits);
  done_is = rw (own, release) (ap (λ (h : List Ended). done_by h g) same ∙ stays_done (done_by v.history g));
}

goes_moves : (job : Job) (v : View) (e : Event) (flag : Bool) (g : ℕ) → IsGoodJob job → fits job e ≡ true → IsViewOf job v → wait job v e flag ≡ None → Moves v (effect job v e) g e (answer job v e)
goes_moves job v (Guest k) flag g good f i w = guest_moves job v k.0 g (next_aim job v k.0) (λ e. joins_disk job v k.0 good i (guest_goes job v k.0 flag w) e)
goes_moves job v (Begin d) flag g good f i w = no_move v (effect job v (Begin d)) g (Begin d) _ refl refl refl refl (waits-set_same v.disks d (record (disk v d) { region = region_length job v d; got = 0 }) g refl)
goes_moves job v (Read d) flag g good f i w = no_move v (effect job v (Read d)) g (Read d) _ refl refl refl refl (waits-set_same v.disks d (record (disk v d) { got = (disk v d).got + 1 }) g refl)
goes_moves job v (Advance d) flag g good f i w = no_move v (effect job v (Advance d)) g (Advance d) _ refl refl refl refl (waits-set_same v.disks d (record (disk v d) { cursor = (disk v d).cursor + (disk v d).region; region = 0; got = 0 }) g refl)
goes_moves job v (Release d) flag g good f i w = release_moves job v d g (omega (arith, ltb-true d _ f, i.lists.disks)) (release_goes job v d flag w).some_queue
goes_moves job v Round flag g good f i w = no_move v (effect job v Round) g Round _ refl refl refl refl refl
goes_moves job v Page flag g good f i w = no_move v (effect job v Page) g Page _ refl refl refl refl refl
goes_moves job v (Send s) flag g good f i w = no_move v (effect job v (Send s)) g (Send s) _ refl refl refl refl refl
goes_moves job v (Deliver s) flag g good f i w = no_move v (effect job v (Deliver s)) g (Deliver s) _ refl refl refl refl refl
goes_moves job v Apply flag g good f i w = no_move v (effect job v Apply) g Apply _ refl refl refl refl refl
goes_moves job v Ack flag g good f i w = no_move v (effect job v Ack) g Ack _ refl refl refl refl refl
goes_moves job v Credit flag g good f i w = no_move v (effect job v Credit) g Credit _ refl refl refl refl refl
goes_moves job v Stun flag g good f i w = no_move v (effect job v Stun) g Stun _ refl refl refl refl refl
goes_moves job v Switch flag g good f i w = no_move v (effect job v Switch) g Switch _ refl refl refl refl refl
goes_moves job v Cancel flag g good f i w = no_move v (given_up v Cancelled) g Cancel _ refl refl refl refl (waits-without v.disks g)

failed : (v : View) (g : ℕ) (e : Event) (t : Turn) → is_of g e ≡ false → frees v g e ≡ false → is_release e ≡ false → Moves v (given_up v Failed) g e t
failed v g e t own free release = no_move v (given_up v Failed) g e t own free release refl (waits-without v.disks g)

fails_moves : (job : Job) (v : View) (e : Event) (flag : Bool) (g : ℕ) → fits job e ≡ true → IsViewOf job v → wait job v e flag ≡ None → Moves v (fault_effect v e) g e (fault_answer e)
fails_moves job v (Guest k) flag g f i w = guest_faults v k.0 g
fails_moves job v (Release d) flag g f i w = release_faults v d g (omega (arith, ltb-true d _ f, i.lists.disks)) (release_goes job v d flag w).some_queue
fails_moves job v (Begin d) flag g f i w = failed v g (Begin d) _ refl refl refl
fails_moves job v (Read d) flag g f i w = failed v g (Read d) _ refl refl refl
fails_moves job v (Advance d) flag g f i w = failed v g (Advance d) _ refl refl refl
fails_moves job v Round flag g f i w = failed v g Round _ refl refl refl
fails_moves job v Page flag g f i w = failed v g Page _ refl refl refl
fails_moves job v (Send s) flag g f i w = failed v g (Send s) _ refl refl refl
fails_moves job v (Deliver s) flag g f i w = failed v g (Deliver s) _ refl refl refl
fails_moves job v Apply flag g f i w = failed v g Apply _ refl refl refl
fails_moves job v Ack flag g f i w = failed v g Ack _ refl refl refl
fails_moves job v Credit flag g f i w = failed v g Credit _ refl refl refl
fails_moves job v Stun flag g f i w = failed v g Stun _ refl refl refl
fails_moves job v Switch flag g f i w = failed v g Switch _ refl refl refl
fails_moves job v Cancel flag g f i w = failed v g Cancel _ refl refl refl

entry_moves : (job : Job) (v : View) (e : Entry) (g : ℕ) → IsGoodJob job → fits job e.event ≡ true → IsViewOf job v → same_turn e.turn (turn job v e.event (is_flagged e.turn)) ≡ true → Moves v (step job v e.event (is_flagged e.turn)) g e.event e.turn
entry_moves job v e g good f i h =
    entry_ways (λ w t. Moves v w g e.event t) job v e h (λ w b. goes_moves job v e.event (is_flagged e.turn) g good f i w) (λ w b. fails_moves job v e.event (is_flagged e.turn) g f i w)

-- a journal
record Counts (job : Job) (v : View) (journal : List Entry) (g : ℕ) : Type 0 where
  ended_is : ended (after job v journal).history g ≡ ended v.history g + own_entries g happened journal + own_entries g is_fault journal + releases_from job v journal g
  waits_is : waits_in_all (after job v journal).disks g + releases_from job v journal g ≡ waits_in_all v.disks g + own_entries g is_queued journal
  done_is : done_by (after job v journal).history g ≡ done_by v.history g + own_entries g happened journal + releases_told g journal

counts-from : (job : Job) (v : View) (journal : List Entry) (g : ℕ) → IsGoodJob job → list_all (λ (e : Entry). fits job e.event) journal ≡ true → IsViewOf job v → is_run_from job v journal ≡ true → Counts job v journal g
counts-from job v [] g good f i r = record { ended_is = stays (ended v.history g); waits_is = refl; done_is = stays_done (done_by v.history g) }
counts-from job v (e ∷ es) g good f i r =
    let flag = is_flagged e.turn in
    let next = step job v e.event flag in
    let fit = and_parts (fits job e.event) (list_all (λ (x : Entry). fits job x.event) es) f in
    let runs = and_parts (same_turn e.turn (turn job v e.event flag)) (is_run_from job next es) r in
    let here = entry_moves job v e g good fit.0 i runs.0 in
    let rest = counts-from job next es g good fit.1 (step-holds job v e.event flag good fit.0 i) runs.1 in
    let own_done = sum_by-cons (λ (x : Entry). bit (is_of g x.event && happened x.turn)) e es in
    record {
      ended_is = omega (arith, here.ended_is, rest.ended_is, own_done, sum_by-cons (λ (x : Entry). bit (is_of g x.event && is_fault x.turn)) e es);
      waits_is = omega (arith, here.waits_is, rest.waits_is, sum_by-cons (λ (x : Entry). bit (is_of g x.event && is_queued x.turn)) e es);
      done_is = omega (arith, here.done_is, rest.done_is, own_done, sum_by-cons (λ (x : Entry). bit (is_release x.event && tells g x.turn)) e es);
    }

counts-run : (job : Job) (journal : List Entry) (g : ℕ) → IsGoodJob job → list_all (λ (e : Entry). fits job e.event) journal ≡ true → is_run job journal ≡ true → Counts job (first_view job) journal g
counts-run job journal g good f r = counts-from job (first_view job) journal g good f (first_view-holds job good) r

pub run-ended : (job : Job) (journal : List Entry) (g : ℕ) → IsGoodJob job → list_all (λ (e : Entry). fits job e.event) journal ≡ true → is_run job journal ≡ true →
    ended (run job journal).history g ≡ own_entries g happened journal + own_entries g is_fault journal + releases job journal g
run-ended job journal g good f r = omega (arith, (counts-run job journal g good f r).ended_is)

pub run-queued : (job : Job) (journal : List Entry) (g : ℕ) → IsGoodJob job → list_all (λ (e : Entry). fits job e.event) journal ≡ true → is_run job journal ≡ true →
    own_entries g is_queued journal ≡ releases job journal g + waits_in_all (run job journal).disks g
run-queued job journal g good f r = omega (arith, (counts-run job journal g good f r).waits_is, waits-none job.copy.disks g)

pub run-own : (job : Job) (journal : List Entry) (g : ℕ) → IsGoodJob job → list_all (λ (e : Entry). fits job e.event) journal ≡ true → is_run job journal ≡ true →
    own_entries g happened journal + own_entries g is_fault journal + own_entries g is_queued journal ≡ ended (run job journal).history g + waits_in_all (run job journal).disks g
run-own job journal g good f r = omega (arith, run-ended job journal g good f r, run-queued job journal g good f r)

pub run-done : (job : Job) (journal : List Entry) (g : ℕ) → IsGoodJob job → list_all (λ (e : Entry). fits job e.event) journal ≡ true → is_run job journal ≡ true →
    done_by (run job journal).history g ≡ own_entries g happened journal + releases_told g journal
run-done job journal g good f r = omega (arith, (counts-run job journal g good f r).done_is)

-- the operations that have ended were done or faulted
two_ways : (b d : Bool) → bit b ≡ bit (b && d) + bit (b && not d)
two_ways true true = refl
two_ways true false = refl
two_ways false d = refl

ended-parts : (h : List Ended) (g : ℕ) → ended h g ≡ done_by h g + faulted_by h g
ended-parts [] g = refl
ended-parts (e ∷ es) g =
    omega (
      arith,
      two_ways (e.guest.0 == g) (is_done e.outcome),
      ended-parts es g,
      sum_by-cons (λ (x : Ended). bit (x.guest.0 == g)) e es,
      sum_by-cons (λ (x : Ended). bit ((x.guest.0 == g) && is_done x.outcome)) e es,
      sum_by-cons (λ (x : Ended). bit ((x.guest.0 == g) && not (is_done x.outcome))) e es,
    )

pub run-faulted : (job : Job) (journal : List Entry) (g : ℕ) → IsGoodJob job → list_all (λ (e : Entry). fits job e.event) journal ≡ true → is_run job journal ≡ true →
    faulted_by (run job journal).history g + releases_told g journal + waits_in_all (run job journal).disks g ≡ own_entries g is_fault journal + own_entries g is_queued journal
run-faulted job journal g good f r = omega (arith, run-own job journal g good f r, run-done job journal g good f r, ended-parts (run job journal).history g)
